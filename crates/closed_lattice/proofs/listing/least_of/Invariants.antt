use Rattle.closed_lattice.proofs.Sifting.{IsSifting}
use Rattle.closed_lattice.proofs.listing.least_of.Given as goal

abbrev pub invariant-loop-p : goal.invariant-loop-p
invariant-loop-p l = IsSifting l.m l.found l.list.items l.p-index
