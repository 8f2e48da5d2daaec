use Rattle.std.proofs.Common.{ℕ, ◌≡◌, ◌<◌, length, slice_index}
use Rattle.state_rows.proofs.columns.picked.Given as goal

abbrev pub invariant-loop-place : goal.invariant-loop-place
invariant-loop-place l = record {
  count : length l.picked.items ≡ l.place-index;
  each : (k : ℕ) → k < l.place-index → slice_index l.picked.items k ≡ slice_index l.numbers (slice_index l.kept k);
}
