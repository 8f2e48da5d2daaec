use Rattle.std.proofs.Common.{ℕ, ◌≡◌, ◌<◌, length, slice_index}
use Rattle.state_rows.specs.Columns.{ArePicked}
use Rattle.state_rows.specs.Places.{places_of}
use Rattle.state_rows.proofs.columns.columns_of_states.Given as goal

abbrev pub invariant-loop-s : goal.invariant-loop-s
invariant-loop-s l = record {
  count : length l.columns.items ≡ l.s;
  each : (t : ℕ) → t < l.s → ArePicked (places_of l.places t) (places_of l.kept.items (slice_index l.leaders t)) (places_of l.columns.items t);
}
