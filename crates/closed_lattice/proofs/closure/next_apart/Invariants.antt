use Rattle.std.proofs.Common.{vec_len}
use Rattle.closed_lattice.specs.Inner.WaitingPairs.{LeavesOut}
use Rattle.closed_lattice.proofs.closure.next_apart.Given as goal

abbrev pub invariant-loop-u : goal.invariant-loop-u
invariant-loop-u l = LeavesOut l.p l.fn.waiting.items l.waiting.items

abbrev pub decreases-loop-u : goal.decreases-loop-u
decreases-loop-u l = vec_len l.waiting
