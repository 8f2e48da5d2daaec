use Rattle.std.proofs.Common.{All, length}
use Rattle.hs_lattice.specs.Collection.{IsCollection, items_in}
use Rattle.partition.specs.Order.{Before}
use Rattle.partition.specs.Partition.{IsPartition}
use Rattle.closed_lattice.specs.ClosedPartitions.{IsPrincipalWithin}
use Rattle.closed_lattice.specs.Inner.Generators.{HavePrincipals}
use Rattle.closed_lattice.specs.KnownPrincipals.{ArePrincipalsOf}
use Rattle.closed_lattice.proofs.principal_list.collect.Given as goal

abbrev pub invariant-loop-t : goal.invariant-loop-t
invariant-loop-t l = record {
  known : ArePrincipalsOf l.m l.known;
  collection : IsCollection (λ p. p) (IsPartition (length l.m.states)) Before l.found;
  found : All (IsPrincipalWithin l.m l.top) (items_in l.found);
  each : HavePrincipals l.m l.top l.t (items_in l.found);
}
