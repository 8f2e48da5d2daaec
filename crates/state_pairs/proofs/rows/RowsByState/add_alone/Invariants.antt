use Rattle.std.proofs.Common.{◌≡◌}
use Rattle.state_pairs.specs.AddedPairs.{AddsPairs, AtPlace, BelowCount, NamesAlone}
use Rattle.state_pairs.proofs.rows.RowsByState.add_alone.Given as goal

abbrev pub invariant-loop-number : goal.invariant-loop-number
invariant-loop-number l = record {
  pairs : AddsPairs (BelowCount (AtPlace l.self.rows l.number-items (NamesAlone l.self l.t l.turned)) l.number-index) l.fn.pairs.pairs l.pairs.pairs;
  states : l.pairs.states ≡ l.fn.pairs.states;
}
