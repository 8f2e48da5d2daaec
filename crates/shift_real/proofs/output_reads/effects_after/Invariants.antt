-- The effects at the states so far.
use Rattle.shift_real.specs.Inner.OutputReads.{AreEffectsAfter}
use Rattle.shift_real.proofs.output_reads.effects_after.Given as goal

abbrev pub invariant-loop-state : goal.invariant-loop-state
invariant-loop-state l = AreEffectsAfter l.m l.states l.state l.effects.items
