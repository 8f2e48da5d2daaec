use Rattle.std.proofs.Common.{ℕ, ◌≡◌, ◌<◌, ◌↔◌, Contains, length}
use Rattle.state_rows.specs.Places.{places_of}
use Rattle.state_rows.proofs.order.places_by_cubes.Given as goal

abbrev pub invariant-loop-list : goal.invariant-loop-list
invariant-loop-list l = record {
  count : length l.ordered.items ≡ l.list-index;
  same : (s i : ℕ) → s < l.list-index → Contains (places_of l.ordered.items s) i ↔ Contains (places_of l.places s) i;
}
