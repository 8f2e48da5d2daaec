use Rattle.closed_lattice.specs.Inner.Joins.{Joins}
use Rattle.closed_lattice.specs.Inner.WaitingPairs.{AreTogether}
use Rattle.closed_lattice.proofs.closure.join_known.Given as goal

abbrev pub invariant-loop-u : goal.invariant-loop-u
invariant-loop-u l = Joins l.m (λ q. AreTogether q l.pairs) l.initial.p l.p
