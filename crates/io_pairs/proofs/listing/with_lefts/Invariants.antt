use Rattle.std.proofs.Common.{map}
use Rattle.io_pairs.specs.Inner.RightSides.{HaveLefts}
use Rattle.io_pairs.specs.Inner.Families.{functions_of}
use Rattle.io_pairs.specs.Sides.{sides_of}
use Rattle.io_pairs.proofs.listing.with_lefts.Given as goal

abbrev pub invariant-loop-right : goal.invariant-loop-right
invariant-loop-right l = HaveLefts l.family.members (functions_of l.family) l.yielded (map sides_of l.pairs.items)
