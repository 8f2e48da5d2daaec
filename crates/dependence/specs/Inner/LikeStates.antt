-- States that are compared because their words have the same bits of a set.
use Rattle.std.specs.Prelude.{◌≡◌, ◌≢◌, ℕ, ◌<◌, ◌≤◌, ◌%◌, List, Option, Some, bit_and, slice_get, slice_index}

-- t is the first state whose word has the same bits of the set as the word of s
pub record IsFirstLike (words : List ℕ) (set s t : ℕ) : Type 0 where
  pub among : t ≤ s
  pub like : bit_and (slice_index words t) set ≡ bit_and (slice_index words s) set
  pub before : (u : ℕ) → u < t → bit_and (slice_index words u) set ≢ bit_and (slice_index words s) set

-- the place of a state in a table, by the bits of a set in its word
abbrev pub place_in : List ℕ → ℕ → ℕ → ℕ
place_in words set s = bit_and (slice_index words s) set % 509

-- a table for the states below count: each state in it is the first one like itself, and the place of each state is taken
pub record AreFirsts (words : List ℕ) (set : ℕ) (firsts : List (Option ℕ)) (count : ℕ) : Type 0 where
  pub each : (place first : ℕ) → slice_get firsts place ≡ Some (Some first) → first < count × IsFirstLike words set first first
  pub taken : (s : ℕ) → s < count → (first : ℕ) × (slice_get firsts (place_in words set s) ≡ Some (Some first))
