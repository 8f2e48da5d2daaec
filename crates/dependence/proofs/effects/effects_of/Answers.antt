use Rattle.std.proofs.Common.{◌+◌, ◌∙◌, List, subst, sym, arith}
use Rattle.std.proofs.lemmas.List.{with_items_is}
use Rattle.dependence.specs.declared.effects.Effect.{Effect}
use Rattle.dependence.specs.Effects.{AddsState}
use Rattle.dependence.specs.Inner.Effects.{AreEffects}
use Rattle.dependence.proofs.Gathered.{effects_more, effects_none}
use Rattle.dependence.proofs.effects.effects_of.Goals as goal

pub loop-s-init : goal.loop-s-init
loop-s-init c = effects_none c.args.m.now c.args.words.now c.in_ok-effects.effects.items (c.in_ok-effects.ensures.size ∙ c.inputs.ensures.count) (omega (arith, c.inputs.ensures.count, c.inputs.ensures.limit)) c.in_ok-effects.ensures.none

pub loop-s-preserved : goal.loop-s-preserved
loop-s-preserved c =
    let before = c.loop-s.effects in
    let after = c.add_effects.new.effects in
    let added : AddsState c.args.m.now c.args.words.now c.loop-s.s before.items after =
    subst (λ (list : List Effect). AddsState c.args.m.now c.args.words.now c.loop-s.s list after) c.deref_mut.ensures.value c.in_ok-add_effects.ensures in
    let kept = with_items_is before after (c.in_ok-add_effects.ensures.size ∙ c.deref_mut.ensures.len) in
    subst (λ (list : List Effect). AreEffects c.args.m.now c.args.words.now list (c.loop-s.s + 1)) (sym kept)
    (effects_more c.args.m.now c.args.words.now before.items after c.loop-s.s c.loop-s.invariant added)
