use Rattle.std.proofs.Common.{◌≡◌, ℕ, ◌<◌, false, get_or}
use Rattle.hs_io.specs.Inner.Cut.{cuts}
use Rattle.hs_io.proofs.lines.line_text.first_cut.Given as goal

abbrev pub invariant-loop-place : goal.invariant-loop-place
invariant-loop-place l = (k : ℕ) → k < l.place → cuts l.cut (get_or l.text k 0) ≡ false
