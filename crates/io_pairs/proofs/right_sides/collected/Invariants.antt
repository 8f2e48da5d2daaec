use Rattle.hs_lattice.specs.Collection.{IsCollection, items_in}
use Rattle.partition.specs.Order.{Before}
use Rattle.partition.specs.Partition.{IsPartition}
use Rattle.io_pairs.specs.Inner.RightSides.{AreRights, HaveRights}
use Rattle.io_pairs.specs.Inner.Families.{functions_of}
use Rattle.io_pairs.proofs.right_sides.collected.Given as goal

abbrev pub invariant-loop-y : goal.invariant-loop-y
invariant-loop-y l = record {
  collection : IsCollection (λ p. p) (IsPartition l.family.values) Before l.found;
  found : AreRights l.family.members l.family.values (functions_of l.family) (items_in l.found);
  each : HaveRights l.family.values (functions_of l.family) l.y (items_in l.found);
}
