use Rattle.std.proofs.Common.{All}
use Rattle.mm_lattice.specs.Inner.PlacedPairs.{HavePlaces, IsPlaced}
use Rattle.mm_lattice.proofs.placed_pairs.placed_pairs.Given as goal

abbrev pub invariant-loop-t : goal.invariant-loop-t
invariant-loop-t l = record {
  placed : All (IsPlaced l.m l.rights) l.pairs.items;
  each : HavePlaces l.t l.pairs.items;
}
