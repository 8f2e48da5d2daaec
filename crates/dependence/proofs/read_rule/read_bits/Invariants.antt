use Rattle.dependence.specs.Bit.{value_of}
use Rattle.dependence.specs.Inner.Differences.{AreFound}
use Rattle.dependence.specs.Inner.Judgement.{AreJudgedFrom}
use Rattle.dependence.proofs.read_rule.read_bits.Given as goal

abbrev pub invariant-loop-c : goal.invariant-loop-c
invariant-loop-c l = record {
  judged : AreJudgedFrom l.m l.words (value_of l.m l.words l.gate) l.candidates l.set l.c;
  found : AreFound l.m l.words l.differences.found.items;
}
