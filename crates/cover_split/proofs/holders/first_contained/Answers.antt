use Rattle.std.proofs.Common.{ℕ, ◌≡◌, inl, inr, subst, arith}
use Rattle.std.proofs.lemmas.Bool.{cases_lt}
use Rattle.cover_split.specs.StateCover.{IsWithin}
use Rattle.cover_split.proofs.holders.first_contained.Goals as goal

pub loop-a-preserved : goal.loop-a-preserved
loop-a-preserved c e d within it =
    elim (cases_lt e c.loop-a.a) [
      | inl old ↦ c.loop-a.invariant e d old it
      | inr last ↦ let here : e ≡ c.loop-a.a = omega arith in c.in_default.ensures.none d (subst (λ (k : ℕ). IsWithin c.args.blocks.now k d) here it)
    ]

pub returns-clause-none : goal.returns-clause-none
returns-clause-none c a b it = c.loop-a.invariant a b (omega (arith, it.first, c.loop-a-test.false)) it
