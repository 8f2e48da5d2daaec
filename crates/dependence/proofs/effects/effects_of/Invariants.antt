use Rattle.dependence.specs.Inner.Effects.{AreEffects}
use Rattle.dependence.proofs.effects.effects_of.Given as goal

abbrev pub invariant-loop-s : goal.invariant-loop-s
invariant-loop-s l = AreEffects l.m l.words l.effects.items l.s
