use Rattle.dependence.specs.Inner.Differences.{AreFound}
use Rattle.dependence.specs.Inner.Sets.{AreLatchSets}
use Rattle.dependence.proofs.gate_reads.latch_sets.Given as goal

abbrev pub invariant-loop-i : goal.invariant-loop-i
invariant-loop-i l = record {
  sets : AreLatchSets l.m l.split.parts l.codes l.sets l.i;
  found : AreFound l.m l.codes.words l.differences.found.items;
}
