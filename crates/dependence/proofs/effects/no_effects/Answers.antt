use Rattle.std.proofs.Common.{◌∙◌, ℕ, List, [], ◌∷◌, ◌++◌, length, refl, ap, sym, subst, arith}
use Rattle.std.proofs.lemmas.List.{length-replicate, replicate_more}
use Rattle.dependence.specs.declared.effects.Effect.{Effect}
use Rattle.dependence.specs.declared.bit.Bit.{Bit}
use Rattle.dependence.specs.Effects.{ActsBy}
use Rattle.dependence.proofs.Adding.{none_acts}
use Rattle.dependence.proofs.effects.no_effects.Goals as goal

abbrev no_effect : Effect
no_effect = record { latches = 0; outputs = 0 }

pub loop-preserved : goal.loop-preserved
loop-preserved c = c.in_ok-push.ensures.items ∙ ap (λ (list : List Effect). list ++ no_effect ∷ []) c.loop.invariant ∙ replicate_more c.loop.counter no_effect

pub returns-clause-size : goal.returns-clause-size
returns-clause-size c = omega (arith, ap length c.loop.invariant ∙ length-replicate c.loop.counter no_effect, c.loop-test.false)

pub returns-clause-none : goal.returns-clause-none
returns-clause-none c = subst (λ (list : List Effect). (a : ℕ) (gate : Bit) → ActsBy list a gate → ⊥) (sym c.loop.invariant) (none_acts c.loop.counter no_effect refl refl)
