use Rattle.dependence.specs.BitLists.{AreListed}
use Rattle.dependence.proofs.words.numbers_of.Given as goal

abbrev pub invariant-loop-c : goal.invariant-loop-c
invariant-loop-c l = AreListed l.numbers l.set l.c
