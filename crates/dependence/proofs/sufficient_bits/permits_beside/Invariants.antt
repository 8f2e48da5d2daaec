use Rattle.dependence.specs.Inner.LikeStates.{AreFirsts}
use Rattle.dependence.specs.Inner.Differences.{AreFound}
use Rattle.dependence.specs.Bit.{value_of}
use Rattle.dependence.specs.Laws.Agreeing.{FirstsGive}
use Rattle.dependence.proofs.sufficient_bits.permits_beside.Given as goal

abbrev pub invariant-loop-s : goal.invariant-loop-s
invariant-loop-s l = record {
  give : FirstsGive l.m l.words l.set (value_of l.m l.words l.gate) l.s;
  firsts : AreFirsts l.words l.set l.firsts l.s;
  found : AreFound l.m l.words l.differences.found.items;
}
