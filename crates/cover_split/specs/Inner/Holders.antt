-- Which blocks have a state.
use Rattle.std.specs.Prelude.{◌≡◌, ℕ, ◌<◌, AllPairs, Contains, List, [], length, slice_index_or}
use Rattle.cover_split.specs.StateCover.{Has, IsWithin}

-- the numbers of the first count blocks that have the state, ascending
pub record AreHolders (blocks : List (List ℕ)) (s count : ℕ) (holders : List ℕ) : Type 0 where
  pub own : (j : ℕ) → Contains holders j → (j < count) × Has blocks j s
  pub each : (j : ℕ) → j < count → Has blocks j s → Contains holders j
  pub ascending : AllPairs (λ i j. i < j) holders

-- for each of n states, the numbers of all blocks that have it
pub record AreHoldersOf (blocks : List (List ℕ)) (n : ℕ) (lists : List (List ℕ)) : Type 0 where
  pub size : length lists ≡ n
  pub right : (s : ℕ) → s < n → AreHolders blocks s (length blocks) (slice_index_or lists s [])

-- the least other block that has all of block a
pub record IsLeastAround (blocks : List (List ℕ)) (a b : ℕ) : Type 0 where
  pub is_within : IsWithin blocks a b
  pub least : (c : ℕ) → c < b → IsWithin blocks a c → ⊥

-- each state of the first is in the second
abbrev pub AreIn : List ℕ → List ℕ → Type 0
AreIn first second = (s : ℕ) → Contains first s → Contains second s
