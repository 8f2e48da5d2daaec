use Rattle.std.proofs.Common.{map}
use Rattle.mm_lattice.specs.Inner.RightSides.{HaveLefts}
use Rattle.mm_lattice.specs.Sides.{sides_of}
use Rattle.mm_lattice.proofs.listing.with_lefts_by_pairs.Given as goal

abbrev pub invariant-loop-right : goal.invariant-loop-right
invariant-loop-right l = HaveLefts l.m l.yielded (map sides_of l.pairs.items)
