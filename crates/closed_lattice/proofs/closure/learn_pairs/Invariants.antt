use Rattle.std.proofs.Common.{length, vec_len}
use Rattle.closed_lattice.specs.KnownPrincipals.{ArePrincipalsOf}
use Rattle.closed_lattice.specs.Inner.WaitingPairs.{AreStates}
use Rattle.closed_lattice.proofs.closure.learn_pairs.Given as goal

abbrev pub invariant-loop-u : goal.invariant-loop-u
invariant-loop-u l = ArePrincipalsOf l.m l.known × AreStates (length l.m.states) l.left.items

abbrev pub decreases-loop-u : goal.decreases-loop-u
decreases-loop-u l = vec_len l.left
