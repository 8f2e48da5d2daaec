use Rattle.std.proofs.Common.{inl, inr, subst, arith}
use Rattle.std.proofs.lemmas.Bool.{cases_eq, iff_false}
use Rattle.state_codes.specs.Split.{TogetherInAll}
use Rattle.state_codes.proofs.encoder.first_partner.Goals as goal

pub loop-t-preserved : goal.loop-t-preserved
loop-t-preserved c u above below held =
    elim (cases_eq u c.loop-t.t) [
      | inl at ↦ iff_false c.together_in_all.ensures c.if-together_in_all.false (subst (TogetherInAll c.args.parts.now c.args.s) at held)
      | inr other ↦ c.loop-t.invariant u above (omega arith) held
    ]
