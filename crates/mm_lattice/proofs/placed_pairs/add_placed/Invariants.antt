use Rattle.mm_lattice.proofs.Placed.{IsPlacing}
use Rattle.mm_lattice.proofs.placed_pairs.add_placed.Given as goal

abbrev pub invariant-loop-s : goal.invariant-loop-s
invariant-loop-s l = IsPlacing l.m l.rights l.t l.s l.pairs.items
