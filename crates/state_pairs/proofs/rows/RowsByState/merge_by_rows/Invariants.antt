use Rattle.std.proofs.Common.{ℕ, ◌≡◌, Contains, length}
use Rattle.state_pairs.specs.AddedPairs.{AtPlace, BelowCount, IsNamedBeside}
use Rattle.state_pairs.specs.MergedStates.{MergesPairs}
use Rattle.partition.specs.Partition.{Together}
use Rattle.state_pairs.proofs.rows.RowsByState.merge_by_rows.Given as goal

abbrev pub invariant-loop-number : goal.invariant-loop-number
invariant-loop-number l = record {
  merged : MergesPairs (BelowCount (AtPlace l.self.rows l.number-items (IsNamedBeside l.self l.t)) l.number-index) l.fn.part l.part;
  known : (u v : ℕ) → Contains l.pairs.pairs (u, v) → Together l.part u v;
  states : l.pairs.states ≡ length l.self.states;
}
