-- The filled rows of the states so far.
use Rattle.realise.specs.Inner.FilledRows.{AreFilledBelow}
use Rattle.realise.proofs.whole_rows.state_rows.Given as goal

abbrev pub invariant-loop-state : goal.invariant-loop-state
invariant-loop-state l = AreFilledBelow l.m l.state l.filled.items
