use Rattle.std.proofs.Common.{ℕ, inl, inr, subst, arith}
use Rattle.std.proofs.lemmas.Bool.{cases_eq, cases_lt}
use Rattle.partition.specs.Partition.{Together}
use Rattle.partition.specs.Laws.Chains.{together_turned}
use Rattle.parallel_split.proofs.members.first_held.Goals as goal

pub loop-s-init : goal.loop-s-init
loop-s-init c u v below above held = absurd (omega arith)

pub returns-in-Some-clause-some : goal.returns-in-Some-clause-some
returns-in-Some-clause-some c = record {
  order = c.in-Some.ensures.some.0;
  held = c.in-Some.ensures.some.1;
  first = c.loop-s.invariant;
  least = c.in-Some.ensures.least;
}

pub loop-s-preserved : goal.loop-s-preserved
loop-s-preserved c u v below above held =
    elim (cases_eq u c.loop-s.s) [
      | inl at ↦ c.in_default.ensures.none v (omega arith) (subst (λ (w : ℕ). Together c.args.p.now w v) at held)
      | inr other ↦ c.loop-s.invariant u v (omega arith) above held
    ]

pub returns-clause-none : goal.returns-clause-none
returns-clause-none c s t held =
    elim (cases_eq s t) [
      | inl same ↦ same
      | inr other ↦ elim (cases_lt s t) [
        | inl less ↦ absurd (c.loop-s.invariant s t (omega (arith, held.0, c.loop-s-test.false, c.len-s-end.ensures.len)) less held)
        | inr more ↦ absurd (c.loop-s.invariant t s (omega (arith, held.1, c.loop-s-test.false, c.len-s-end.ensures.len)) (omega arith) (together_turned c.args.p.now s t held))
      ]
    ]
