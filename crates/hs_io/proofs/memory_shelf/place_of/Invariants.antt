-- No text so far has the name.
use Rattle.std.proofs.Common.{ℕ, ◌<◌}
use Rattle.hs_io.specs.Inner.Places.{IsOtherAt}
use Rattle.hs_io.proofs.memory_shelf.place_of.Given as goal

abbrev pub invariant-loop-place : goal.invariant-loop-place
invariant-loop-place l = (k : ℕ) → k < l.place → IsOtherAt l.texts l.name k
