-- The first states for those so far.
use Rattle.shift_real.specs.Inner.Tables.{AreFirsts}
use Rattle.shift_real.proofs.tables.first_alike.Given as goal

abbrev pub invariant-loop-s : goal.invariant-loop-s
invariant-loop-s l = AreFirsts l.m l.b l.s l.firsts.items
