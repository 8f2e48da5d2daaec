use Rattle.std.proofs.Common.{ℕ, inl, inr, subst, arith}
use Rattle.std.proofs.lemmas.Bool.{cases_eq}
use Rattle.state_codes.specs.Split.{TogetherInAll}
use Rattle.state_codes.proofs.encoder.first_together.Goals as goal

pub loop-s-preserved : goal.loop-s-preserved
loop-s-preserved c u v below above within held =
    elim (cases_eq u c.loop-s.s) [
      | inl at ↦ c.in_default.ensures.none v (omega arith) within (subst (λ (w : ℕ). TogetherInAll c.args.parts.now w v) at held)
      | inr other ↦ c.loop-s.invariant u v (omega arith) above within held
    ]
