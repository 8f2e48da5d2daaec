-- Places in an ascending list.
use Rattle.std.specs.Prelude.{ℕ, ◌<◌, ◌≤◌, List, length, slice_index_or}

-- the items below the place come before this item, and the items from the place on come after it
pub record IsInsertionPlace {X : Type 0} (comes_before : X → X → Type 0) (xs : List X) (item : X) (place : ℕ) : Type 0 where
  pub within : place ≤ length xs
  pub below : (k : ℕ) (d : X) → k < place → comes_before (slice_index_or xs k d) item
  pub above : (k : ℕ) (d : X) → place ≤ k → k < length xs → comes_before item (slice_index_or xs k d)
