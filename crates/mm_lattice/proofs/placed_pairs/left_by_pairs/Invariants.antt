use Rattle.mm_lattice.proofs.Placed.{IsLeftSoFar}
use Rattle.mm_lattice.proofs.placed_pairs.left_by_pairs.Given as goal

abbrev pub invariant-loop-pair : goal.invariant-loop-pair
invariant-loop-pair l = IsLeftSoFar l.m l.q l.pairs l.pair-index l.p
