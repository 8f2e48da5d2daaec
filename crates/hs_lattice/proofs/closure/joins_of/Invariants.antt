use Rattle.std.proofs.Common.{◌≤◌, length}
use Rattle.hs_lattice.specs.Collection.{IsCollection, items_in}
use Rattle.hs_lattice.proofs.Passes.{IsReached}
use Rattle.hs_lattice.proofs.closure.joins_of.Given as goal

abbrev pub invariant-loop-generator : goal.invariant-loop-generator
invariant-loop-generator g l =
    let w = g.W.JoinWorld in
    record {
      known : IsCollection w.meaning (w.fits l.world) (w.precedes l.world) l.known;
      reached : IsReached w.meaning (w.least l.world) (w.joins l.world) l.generators l.generator-index (items_in l.known);
      small : length (items_in l.known) ≤ l.limit;
    }
