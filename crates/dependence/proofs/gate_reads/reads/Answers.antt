use Rattle.std.proofs.Common.{ℕ, List, length, sym, subst}
use Rattle.dependence.specs.Inner.Effects.{AreEffects}
use Rattle.dependence.specs.declared.effects.Effect.{Effect}
use Rattle.dependence.proofs.gate_reads.reads.Goals as goal

pub latch_sets-requires-clause-words : goal.latch_sets-requires-clause-words
latch_sets-requires-clause-words c = c.requires.code.written.states

pub latch_sets-requires-clause-effects : goal.latch_sets-requires-clause-effects
latch_sets-requires-clause-effects c =
    subst (λ (effects : List Effect). AreEffects c.args.m.now c.args.codes.now.words effects (length c.args.m.now.states)) (sym c.as_slice-2.ensures.value)
    (subst (λ (words : List ℕ). AreEffects c.args.m.now words c.in_ok-effects.effects.items (length c.args.m.now.states)) c.as_slice.ensures c.in_ok-effects.ensures)

pub output_sets-requires-clause-words : goal.output_sets-requires-clause-words
output_sets-requires-clause-words c = c.requires.code.written.states

pub output_sets-requires-clause-effects : goal.output_sets-requires-clause-effects
output_sets-requires-clause-effects c =
    subst (λ (effects : List Effect). AreEffects c.args.m.now c.args.codes.now.words effects (length c.args.m.now.states)) (sym c.as_slice-3.ensures.value)
    (subst (λ (words : List ℕ). AreEffects c.args.m.now words c.in_ok-effects.effects.items (length c.args.m.now.states)) c.as_slice.ensures c.in_ok-effects.ensures)

pub returns : goal.returns
returns c = record {
  latch_count = c.in_ok-latches.ensures.sets.size;
  latches = c.in_ok-latches.ensures.sets.each;
  output_count = c.in_ok-outputs.ensures.size;
  outputs = c.in_ok-outputs.ensures.each;
}
