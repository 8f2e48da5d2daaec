use Rattle.std.proofs.Common.{ℕ, ◌<◌}
use Rattle.cover_split.specs.StateCover.{block_at}
use Rattle.cover_split.specs.Inner.Joints.{HasEachNext}
use Rattle.cover_split.proofs.joint.first_target.Given as goal

abbrev pub invariant-loop-j : goal.invariant-loop-j
invariant-loop-j l = (k : ℕ) → k < l.j → HasEachNext l.pieces (block_at l.blocks k) → ⊥
