use Rattle.std.proofs.Common.{◌≡◌}
use Rattle.state_pairs.specs.AddedPairs.{AddsPairs, AtBundle, BelowCount}
use Rattle.state_pairs.proofs.rows.RowsByState.add_beside.Given as goal

abbrev pub invariant-loop-bundle : goal.invariant-loop-bundle
invariant-loop-bundle l = record {
  pairs : AddsPairs (BelowCount (AtBundle l.self.rows l.bundle-items l.row.cube l.next) l.bundle-index) l.fn.pairs.pairs l.pairs.pairs;
  states : l.pairs.states ≡ l.fn.pairs.states;
}
