use Rattle.std.proofs.Common.{ℕ, ◌<◌}
use Rattle.state_rows.specs.Conflict.{ContradictAt}
use Rattle.state_rows.proofs.contradiction.first_conflict.Given as goal

abbrev pub invariant-loop-number : goal.invariant-loop-number
invariant-loop-number l = (i j : ℕ) → i < j → j < l.number → ContradictAt l.rows i j → ⊥
