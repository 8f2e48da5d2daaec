use Rattle.std.proofs.Common.{◌≤◌, length}
use Rattle.hs_lattice.specs.Collection.{IsCollection, items_in}
use Rattle.hs_lattice.proofs.Passes.{IsPassing}
use Rattle.hs_lattice.proofs.closure.add_joins.Given as goal

abbrev pub invariant-loop-place : goal.invariant-loop-place
invariant-loop-place g l =
    let w = g.W.JoinWorld in
    record {
      known : IsCollection w.meaning (w.fits l.world) (w.precedes l.world) l.known;
      passing : IsPassing w.meaning (w.joins l.world) (items_in l.fn.known) (w.meaning l.generator) (items_in l.known) l.place;
      small : length (items_in l.known) ≤ l.limit;
    }
