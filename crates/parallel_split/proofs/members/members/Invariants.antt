use Rattle.std.proofs.Common.{◌-◌}
use Rattle.partition.specs.Partition.{blocks_of}
use Rattle.closed_lattice.specs.KnownPrincipals.{ArePrincipalsOf}
use Rattle.parallel_split.specs.Inner.Members.{AreMembers}
use Rattle.parallel_split.proofs.members.members.Given as goal

abbrev pub invariant-loop-s : goal.invariant-loop-s
invariant-loop-s l = record {
  members : AreMembers l.m l.common l.found.items;
  kept : ArePrincipalsOf l.m l.kept;
}

abbrev pub decreases-loop-s : goal.decreases-loop-s
decreases-loop-s l = l.n - blocks_of l.common
