use Rattle.std.proofs.Common.{ℕ, ◌≡◌, ◌<◌, slice_index, vec_len}
use Rattle.pair_operators.specs.Inner.Keys.{mixed}
use Rattle.pair_operators.proofs.next_columns.Keys.after.Given as goal

abbrev pub invariant-loop-s : goal.invariant-loop-s
invariant-loop-s l = record {
  size : vec_len l.numbers ≡ l.s;
  each : (k : ℕ) → k < l.s → slice_index l.numbers.items k ≡ mixed (slice_index l.self.numbers.items k) (slice_index l.q (slice_index l.column.states.items k));
}
