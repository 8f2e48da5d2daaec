use Rattle.std.proofs.Common.{ℕ, ◌<◌}
use Rattle.state_codes.specs.Split.{TogetherInAll}
use Rattle.state_codes.proofs.encoder.first_together.Given as goal

abbrev pub invariant-loop-s : goal.invariant-loop-s
invariant-loop-s l = (u v : ℕ) → u < l.s → u < v → v < l.n → TogetherInAll l.parts u v → ⊥
