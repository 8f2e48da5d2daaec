use Rattle.std.proofs.Common.{ℕ, ◌≡◌, ◌<◌, length}
use Rattle.state_rows.specs.Bundles.{AreBundles, bundles_of}
use Rattle.state_rows.specs.Places.{places_of}
use Rattle.state_rows.proofs.bundles.bundles_of_states.Given as goal

abbrev pub invariant-loop-list : goal.invariant-loop-list
invariant-loop-list l = record {
  count : length l.bundles.items ≡ l.list-index;
  each : (s : ℕ) → s < l.list-index → AreBundles l.rows (places_of l.places s) (bundles_of l.bundles.items s);
}
