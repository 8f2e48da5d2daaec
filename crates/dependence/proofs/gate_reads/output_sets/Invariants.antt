use Rattle.dependence.specs.Inner.Differences.{AreFound}
use Rattle.dependence.specs.Inner.Sets.{AreOutputSets}
use Rattle.dependence.proofs.gate_reads.output_sets.Given as goal

abbrev pub invariant-loop-b : goal.invariant-loop-b
invariant-loop-b l = record {
  sets : AreOutputSets l.m l.codes l.sets l.b;
  found : AreFound l.m l.codes.words l.differences.found.items;
}
