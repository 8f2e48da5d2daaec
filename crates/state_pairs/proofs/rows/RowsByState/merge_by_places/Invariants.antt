use Rattle.state_pairs.specs.AddedPairs.{AtBothPlaces, BelowCount}
use Rattle.state_pairs.specs.MergedStates.{MergesPairs}
use Rattle.state_pairs.proofs.rows.RowsByState.merge_by_places.Given as goal

abbrev pub invariant-loop-i : goal.invariant-loop-i
invariant-loop-i l = MergesPairs (BelowCount (AtBothPlaces l.self.rows l.first l.second) l.i) l.fn.part l.part
