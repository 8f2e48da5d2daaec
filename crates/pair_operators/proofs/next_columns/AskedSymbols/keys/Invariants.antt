use Rattle.pair_operators.specs.Inner.Keys.{AreKeys}
use Rattle.pair_operators.proofs.next_columns.AskedSymbols.keys.Given as goal

abbrev pub invariant-loop-column : goal.invariant-loop-column
invariant-loop-column l = AreKeys l.m l.q l.keys
