use Rattle.std.proofs.Common.{◌≡◌}
use Rattle.state_pairs.specs.AddedPairs.{AddsPairs, AtBothPlaces, BelowCount}
use Rattle.state_pairs.proofs.rows.RowsByState.add_by_places.Given as goal

abbrev pub invariant-loop-i : goal.invariant-loop-i
invariant-loop-i l = record {
  pairs : AddsPairs (BelowCount (AtBothPlaces l.self.rows l.first l.second) l.i) l.fn.pairs.pairs l.pairs.pairs;
  states : l.pairs.states ≡ l.fn.pairs.states;
}
