-- Collections: different values, and their places in ascending order.
use Rattle.std.specs.Prelude.{◌≡◌, ℕ, ◌+◌, ◌<◌, ◌≤◌, ◌⊎◌, List, [], length, All, AllPairs, Any, Contains, slice_index_or}

-- what contracts see of a collection: the items in the order in which they were added, and their places in ascending
-- order of the values
pub record ItemsAndOrder (X : Type 0) : Type 0 where
  pub items : List X
  pub order : List ℕ

abbrev pub items_in : {X : Type 0} → ItemsAndOrder X → List X
items_in c = c.items

abbrev pub order_in : {X : Type 0} → ItemsAndOrder X → List ℕ
order_in c = c.order

-- the value is the value of some item
abbrev pub Knows : {X M : Type 0} → (X → M) → List X → M → Type 0
Knows meaning items z = Any (λ x. meaning x ≡ z) items

-- the values of the items ascend
abbrev pub IsAscending : {X M : Type 0} → (X → M) → (M → M → Type 0) → List X → Type 0
IsAscending meaning precedes items = AllPairs (λ x y. precedes (meaning x) (meaning y)) items

-- the place of each item once, in ascending order of the items
pub record IsOrder {X : Type 0} (comes_before : X → X → Type 0) (items : List X) (order : List ℕ) : Type 0 where
  pub count : length order ≡ length items
  pub places : All (λ i. i < length items) order
  pub each : (i : ℕ) → i < length items → Contains order i
  pub ascending : AllPairs (λ i j. (d : X) → comes_before (slice_index_or items i d) (slice_index_or items j d)) order

-- values that fit, all different, and their places in ascending order
pub record AreDifferent {X M : Type 0} (meaning : X → M) (fits : M → Type 0) (precedes : M → M → Type 0) (items : List X) (order : List ℕ) : Type 0 where
  pub fit : All (λ x. fits (meaning x)) items
  pub different : AllPairs (λ x y. meaning x ≡ meaning y → ⊥) items
  pub ordered : IsOrder (λ x y. precedes (meaning x) (meaning y)) items order

-- a collection of a world's values
abbrev pub IsCollection : {X M : Type 0} → (X → M) → (M → Type 0) → (M → M → Type 0) → ItemsAndOrder X → Type 0
IsCollection meaning fits precedes c = AreDifferent meaning fits precedes (items_in c) (order_in c)

-- the collection has no items
pub record IsEmpty {X : Type 0} (c : ItemsAndOrder X) : Type 0 where
  pub items : items_in c ≡ []
  pub order : order_in c ≡ []

-- what was known stays known, the items keep their places, and only the value becomes known
pub record Adds {X M : Type 0} (meaning : X → M) (items : List X) (value : M) (new_items : List X) : Type 0 where
  pub kept : (z : M) → Knows meaning items z → Knows meaning new_items z
  pub added : Knows meaning new_items value
  pub only : (z : M) → Knows meaning new_items z → Knows meaning items z ⊎ (value ≡ z)
  pub places : (k : ℕ) (d : X) → k < length items → slice_index_or new_items k d ≡ slice_index_or items k d
  pub no_fewer : length items ≤ length new_items
  pub at_most_one : length new_items ≤ length items + 1
