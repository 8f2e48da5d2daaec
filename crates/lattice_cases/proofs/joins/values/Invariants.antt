use Rattle.std.proofs.Common.{All}
use Rattle.lattice_cases.proofs.joins.values.Given as goal

abbrev pub invariant-loop-word : goal.invariant-loop-word
invariant-loop-word g l =
    let w = g.W.JoinWorld in
    All (λ x. w.fits l.world (w.meaning x)) l.list.items
