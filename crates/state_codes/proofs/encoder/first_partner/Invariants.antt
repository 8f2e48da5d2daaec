use Rattle.std.proofs.Common.{ℕ, ◌<◌}
use Rattle.state_codes.specs.Split.{TogetherInAll}
use Rattle.state_codes.proofs.encoder.first_partner.Given as goal

abbrev pub invariant-loop-t : goal.invariant-loop-t
invariant-loop-t l = (u : ℕ) → l.s < u → u < l.t → TogetherInAll l.parts l.s u → ⊥
