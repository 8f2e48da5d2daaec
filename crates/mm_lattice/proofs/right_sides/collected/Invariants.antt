use Rattle.std.proofs.Common.{length}
use Rattle.hs_lattice.specs.Collection.{IsCollection, items_in}
use Rattle.partition.specs.Order.{Before}
use Rattle.partition.specs.Partition.{IsPartition}
use Rattle.mm_lattice.specs.Inner.RightSides.{AreRights, HaveRights}
use Rattle.mm_lattice.proofs.right_sides.collected.Given as goal

abbrev pub invariant-loop-t : goal.invariant-loop-t
invariant-loop-t l = record {
  collection : IsCollection (λ p. p) (IsPartition (length l.m.states)) Before l.found;
  found : AreRights l.m (items_in l.found);
  each : HaveRights l.m l.t (items_in l.found);
}
