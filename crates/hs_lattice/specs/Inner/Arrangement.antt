-- For private functions and proofs only: items moved into a given order.
use Rattle.std.specs.Prelude.{◌≡◌, ℕ, ◌<◌, List, length, slice_index, slice_index_or}

-- the numbers from 0 on, `count` of them
pub record AreNumbers (count : ℕ) (numbers : List ℕ) : Type 0 where
  pub size : length numbers ≡ count
  pub each : (i : ℕ) → i < count → slice_index numbers i ≡ i

-- as many items as before; at each of the first `count` places is the item whose old place the order gives
pub record IsArranged {X : Type 0} (items : List X) (order : List ℕ) (count : ℕ) (new_items : List X) : Type 0 where
  pub size : length new_items ≡ length items
  pub each : (i : ℕ) (d : X) → i < count → slice_index_or new_items i d ≡ slice_index_or items (slice_index order i) d
