use Rattle.hs_lattice.specs.Collection.{IsCollection}
use Rattle.lattice_cases.proofs.joins.collect.Given as goal

abbrev pub invariant-loop-item : goal.invariant-loop-item
invariant-loop-item g l =
    let w = g.W.JoinWorld in
    IsCollection w.meaning (w.fits l.world) (w.precedes l.world) l.known
