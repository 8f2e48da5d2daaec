use Rattle.std.proofs.Common.{ℕ, ◌≡◌, ◌<◌, All, length, slice_index}
use Rattle.state_rows.specs.Columns.{HaveSameCubes}
use Rattle.state_rows.specs.Places.{places_of}
use Rattle.state_rows.proofs.classes.leaders_of_states.Given as goal

abbrev pub invariant-loop-s : goal.invariant-loop-s
invariant-loop-s l = record {
  size : length l.leaders.items ≡ l.s;
  inside : All (λ leader. leader < length l.places) l.leaders.items;
  cubes : (t : ℕ) → t < l.s → HaveSameCubes l.rows (places_of l.places (slice_index l.leaders.items t)) (places_of l.places t);
}
