use Rattle.std.proofs.Common.{◌-◌, length, get_or}
use Rattle.hs_lattice.proofs.Places.{IsNarrowed}
use Rattle.hs_lattice.proofs.collection.place_for.Given as goal

abbrev pub invariant-loop-low : goal.invariant-loop-low
invariant-loop-low g l =
    let w = g.W.JoinWorld in
    IsNarrowed (λ i j. w.precedes l.world (w.meaning (get_or l.items i l.item)) (w.meaning (get_or l.items j l.item))) l.order (length l.items) l.low l.high

abbrev pub decreases-loop-low : goal.decreases-loop-low
decreases-loop-low g l = l.high - l.low
