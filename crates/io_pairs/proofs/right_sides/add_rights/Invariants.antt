use Rattle.hs_lattice.specs.Collection.{IsCollection, items_in}
use Rattle.partition.specs.Order.{Before}
use Rattle.partition.specs.Partition.{IsPartition}
use Rattle.io_pairs.specs.Inner.Families.{functions_of}
use Rattle.io_pairs.proofs.Found.{IsCollecting}
use Rattle.io_pairs.proofs.right_sides.add_rights.Given as goal

abbrev pub invariant-loop-x : goal.invariant-loop-x
invariant-loop-x l = record {
  collection : IsCollection (λ p. p) (IsPartition l.world.n) Before l.found;
  collecting : IsCollecting l.family.members l.family.values (functions_of l.family) l.y l.x (items_in l.found);
}
