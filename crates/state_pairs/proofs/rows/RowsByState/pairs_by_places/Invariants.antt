use Rattle.std.proofs.Common.{[]}
use Rattle.state_pairs.specs.AddedPairs.{AddsPairs, AtBothPlaces, BelowCount}
use Rattle.state_pairs.proofs.rows.RowsByState.pairs_by_places.Given as goal

abbrev pub invariant-loop-i : goal.invariant-loop-i
invariant-loop-i l = AddsPairs (BelowCount (AtBothPlaces l.self.rows l.first l.second) l.i) [] l.pairs.items
