use Rattle.std.proofs.Common.{◌≡◌, ◌∙◌, ◌⊎◌, ◌↔◌, ℕ, ◌+◌, ◌<◌, sym, subst, arith}
use Rattle.std.proofs.lemmas.Bool.{false≢true}
use Rattle.dependence.specs.Effects.{ActsBy}
use Rattle.dependence.specs.declared.effects.Effect.{Effect}
use Rattle.dependence.specs.SufficientBits.{InWord}
use Rattle.dependence.proofs.Adding.{acts_from, acts_there, acts_within}
use Rattle.dependence.specs.Laws.Words.{set_more, set_same}
use Rattle.dependence.proofs.effects.inputs_of.Goals as goal
use Rattle.dependence.proofs.effects.inputs_of.Goals.{then-acts_on, else-acts_on}

abbrev no_effect : Effect
no_effect = record { latches = 0; outputs = 0 }

pub returns : goal.returns
returns c = λ a. (
  (λ in_word. ((c.loop-a.invariant a).0 in_word).1),
  (λ acts. (c.loop-a.invariant a).1 (omega (arith, acts_within c.args.effects.now a c.args.gate acts, c.loop-a-test.false), acts)),
)

pub loop-a-preserved : goal.loop-a-preserved
loop-a-preserved c = elim c.if-acts_on.branch [
  | then-acts_on w ↦
      set_more (λ d. ActsBy c.args.effects.now d c.args.gate) c.loop-a.inputs c.if-acts_on.inputs c.loop-a.a c.loop-a.invariant
      (subst (λ (n : ℕ). (d : ℕ) → InWord n d ↔ (InWord c.loop-a.inputs d ⊎ (d ≡ c.loop-a.a))) (sym w.inputs-is) w.with_bit-inputs.ensures)
      (acts_from c.args.effects.now c.loop-a.a c.args.gate no_effect c.loop-a-test.true (sym c.acts_on.ensures ∙ w.if-acts_on.true))
  | else-acts_on w ↦
      subst (λ (n : ℕ). (d : ℕ) → InWord n d ↔ (d < c.loop-a.a + 1 × ActsBy c.args.effects.now d c.args.gate)) (sym w.inputs-is)
      (set_same (λ d. ActsBy c.args.effects.now d c.args.gate) c.loop-a.inputs c.loop-a.a c.loop-a.invariant
      (λ acts. false≢true (sym w.if-acts_on.false ∙ c.acts_on.ensures ∙ acts_there c.args.effects.now c.loop-a.a c.args.gate no_effect acts)))
]
