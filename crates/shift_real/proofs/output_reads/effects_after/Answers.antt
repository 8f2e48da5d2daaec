use Rattle.std.proofs.Common.{◌≡◌, ap, sym, ◌∙◌, List, subst}
use Rattle.std.proofs.lemmas.Bool.{true≢false}
use Rattle.std.proofs.lemmas.List.{with_items_is}
use Rattle.dependence.specs.declared.effects.Effect.{Effect}
use Rattle.dependence.specs.Effects.{AddsState}
use Rattle.shift_real.proofs.AmongStates.{effects_more, effects_none, effects_skip}
use Rattle.shift_real.proofs.output_reads.effects_after.Goals as goal
use Rattle.shift_real.proofs.output_reads.effects_after.Goals.{then-is_among+in_ok-add_effects, else-is_among}

pub loop-state-init : goal.loop-state-init
loop-state-init c = effects_none c.args.m.now c.args.states.now c.in_ok-effects.effects.items (c.in_ok-effects.ensures.size ∙ c.inputs.ensures.count) c.in_ok-effects.ensures.none

pub loop-state-preserved : goal.loop-state-preserved
loop-state-preserved c = elim c.if-is_among.branch [
  | then-is_among+in_ok-add_effects w ↦
      let before = c.loop-state.effects in
      let after = w.add_effects.new.effects in
      let added : AddsState c.args.m.now w.deref.result.now c.loop-state.state before.items after =
      subst (λ (list : List Effect). AddsState c.args.m.now w.deref.result.now c.loop-state.state list after) w.deref_mut.ensures.value w.in_ok-add_effects.ensures in
      let kept : c.if-is_among.effects.items ≡ after = ap (λ v. v.items) w.effects-is ∙ with_items_is before after (w.in_ok-add_effects.ensures.size ∙ w.deref_mut.ensures.len) in
      effects_more c.args.m.now w.deref.result.now c.args.states.now c.loop-state.state before.items c.if-is_among.effects.items (c.is_among.ensures.0 w.if-is_among.true) c.loop-state.invariant
      (subst (AddsState c.args.m.now w.deref.result.now c.loop-state.state before.items) (sym kept) added)
  | else-is_among w ↦
      effects_skip c.args.m.now c.args.states.now c.loop-state.state c.loop-state.effects.items c.if-is_among.effects.items
      (λ among. true≢false (sym (c.is_among.ensures.1 among) ∙ w.if-is_among.false)) (ap (λ v. v.items) w.effects-is) c.loop-state.invariant
]
