use Rattle.io_pairs.proofs.Gathering.{AreNumbersBelow}
use Rattle.io_pairs.proofs.states.numbers_of.Given as goal

abbrev pub invariant-loop-word : goal.invariant-loop-word
invariant-loop-word l = AreNumbersBelow l.m l.s l.word-index l.numbers.items
