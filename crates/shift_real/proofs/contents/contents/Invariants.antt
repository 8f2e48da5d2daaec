-- The contents of so many symbols.
use Rattle.shift_real.specs.Inner.Contents.{AreContents}
use Rattle.shift_real.proofs.contents.contents.Given as goal

abbrev pub invariant-symbols : goal.invariant-symbols
invariant-symbols l = AreContents l.m l.counter l.contents.items
