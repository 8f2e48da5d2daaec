use Rattle.std.proofs.Common.{map}
use Rattle.mm_lattice.specs.Inner.RightSides.{HaveLefts}
use Rattle.mm_lattice.specs.Sides.{sides_of}
use Rattle.pair_operators.specs.NextColumns.{AreAsked}
use Rattle.mm_lattice.proofs.listing.with_lefts_asked.Given as goal

abbrev pub invariant-loop-right : goal.invariant-loop-right
invariant-loop-right l = record {
  lefts : HaveLefts l.m l.yielded (map sides_of l.pairs.items);
  asked : AreAsked l.m l.asked;
}
