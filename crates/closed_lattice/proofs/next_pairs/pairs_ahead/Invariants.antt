use Rattle.std.proofs.Common.{◌<◌, ◌-◌, length, vec_len}
use Rattle.closed_lattice.specs.Inner.WaitingPairs.{AreStates}
use Rattle.closed_lattice.proofs.next_pairs.pairs_ahead.Given as goal

abbrev pub invariant-loop-last : goal.invariant-loop-last
invariant-loop-last l = AreStates (length l.m.states) l.pairs.items × (l.last.0 < length l.m.states) × (l.last.1 < length l.m.states)

abbrev pub decreases-loop-last : goal.decreases-loop-last
decreases-loop-last l = 256 - vec_len l.pairs
