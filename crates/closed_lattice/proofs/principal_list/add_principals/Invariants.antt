use Rattle.hs_lattice.specs.Collection.{IsCollection, items_in}
use Rattle.partition.specs.Order.{Before}
use Rattle.partition.specs.Partition.{IsPartition}
use Rattle.closed_lattice.specs.KnownPrincipals.{ArePrincipalsOf}
use Rattle.closed_lattice.proofs.Collected.{IsCollecting}
use Rattle.closed_lattice.proofs.principal_list.add_principals.Given as goal

abbrev pub invariant-loop-s : goal.invariant-loop-s
invariant-loop-s l = record {
  known : ArePrincipalsOf l.m l.known;
  collection : IsCollection (λ p. p) (IsPartition l.world.n) Before l.found;
  collecting : IsCollecting l.m l.top l.t l.s (items_in l.found);
}
