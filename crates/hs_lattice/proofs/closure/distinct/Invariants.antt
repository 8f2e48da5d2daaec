use Rattle.std.proofs.Common.{◌≤◌, length}
use Rattle.hs_lattice.specs.Collection.{IsCollection, Knows, items_in}
use Rattle.hs_lattice.proofs.Distinct.{KeepsFirst}
use Rattle.hs_lattice.proofs.closure.distinct.Given as goal

abbrev pub invariant-loop-generator : goal.invariant-loop-generator
invariant-loop-generator g l =
    let w = g.W.JoinWorld in
    record {
      kept : IsCollection w.meaning (w.fits l.world) (w.precedes l.world) l.kept;
      from : (z : w.Meaning) → Knows w.meaning (items_in l.kept) z → Knows w.meaning l.generators z;
      keeps : KeepsFirst w.meaning l.generators (items_in l.kept) l.generator-index;
      small : length (items_in l.kept) ≤ l.limit;
    }
