use Rattle.std.proofs.Common.{ℕ, inl, inr, sym, ◌∙◌, subst, arith}
use Rattle.std.proofs.lemmas.Bool.{cases_eq, false≢true}
use Rattle.partition.specs.Partition.{Together}
use Rattle.parallel_split.proofs.members.first_partner.Goals as goal

pub loop-t-init : goal.loop-t-init
loop-t-init c v above below = absurd (omega arith)

pub loop-t-preserved : goal.loop-t-preserved
loop-t-preserved c v above below held =
    elim (cases_eq v c.loop-t.t) [
      | inl at ↦ false≢true (sym c.if-same.false ∙ c.same.ensures.1 (subst (λ (u : ℕ). Together c.args.p.now c.args.s u) at held))
      | inr other ↦ c.loop-t.invariant v above (omega arith) held
    ]

pub returns-then-same-clause-least : goal.returns-then-same-clause-least
returns-then-same-clause-least c = c.loop-t.invariant

pub returns-clause-none : goal.returns-clause-none
returns-clause-none c v above held = c.loop-t.invariant v above (omega (arith, held.1, c.loop-t-test.false, c.len-n.ensures.len)) held
