use Rattle.hs_lattice.specs.Collection.{IsCollection, items_in}
use Rattle.partition.specs.Order.{Before}
use Rattle.partition.specs.Partition.{IsPartition}
use Rattle.mm_lattice.proofs.Found.{IsCollecting}
use Rattle.mm_lattice.proofs.right_sides.add_rights.Given as goal

abbrev pub invariant-loop-s : goal.invariant-loop-s
invariant-loop-s l = record {
  collection : IsCollection (λ p. p) (IsPartition l.world.n) Before l.found;
  collecting : IsCollecting l.m l.t l.s (items_in l.found);
}
