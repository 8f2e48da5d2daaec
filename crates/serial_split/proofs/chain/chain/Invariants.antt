use Rattle.std.proofs.Common.{◌-◌}
use Rattle.partition.specs.Partition.{blocks_of}
use Rattle.closed_lattice.specs.KnownPrincipals.{ArePrincipalsOf}
use Rattle.serial_split.specs.Inner.Chain.{IsChain}
use Rattle.serial_split.proofs.chain.chain.Given as goal

abbrev pub invariant-loop-alloc : goal.invariant-loop-alloc
invariant-loop-alloc l = record {
  chain : IsChain l.m l.parts l.top;
  kept : ArePrincipalsOf l.m l.kept;
}

abbrev pub decreases-loop-alloc : goal.decreases-loop-alloc
decreases-loop-alloc l = l.n - blocks_of l.top
