use Rattle.mm_lattice.specs.Inner.PlacedPairs.{AreBelowUpTo}
use Rattle.mm_lattice.proofs.placed_pairs.are_below.Given as goal

abbrev pub invariant-loop-right : goal.invariant-loop-right
invariant-loop-right l = AreBelowUpTo l.rights l.q l.right-index l.below.items
