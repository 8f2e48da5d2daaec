use Rattle.std.proofs.Common.{◌≡◌}
use Rattle.state_pairs.specs.AddedPairs.{AreAddedTo}
use Rattle.state_pairs.proofs.rows.RowsByState.add_in.Given as goal

abbrev pub invariant-loop-place : goal.invariant-loop-place
invariant-loop-place l = record {
  pairs : AreAddedTo l.self.rows l.bundle.numbers l.cube l.next l.marks l.fn.pairs.pairs l.pairs.pairs;
  states : l.pairs.states ≡ l.fn.pairs.states;
}

abbrev pub decreases-loop-place : goal.decreases-loop-place
decreases-loop-place l = l.marks
