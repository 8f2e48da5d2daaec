-- Pairs of states with the places of their right sides in a list.
use Rattle.std.specs.Prelude.{◌≡◌, ℕ, ◌<◌, ◌↔◌, All, Bool, Contains, IsTrue, List, Some, length, slice_get, slice_index_or}
use Rattle.kiss_file.specs.declared.file.KissFile.{KissFile}
use Rattle.partition.specs.Partition.{Le}
use Rattle.mm_lattice.specs.declared.placed_pairs.PlacedPair.{PlacedPair}
use Rattle.mm_lattice.specs.Generators.{IsRightOf}

-- two states, whose right side is in the list at the place
pub record IsPlaced (F : KissFile) (rights : List (List ℕ)) (pair : PlacedPair) : Type 0 where
  pub order : pair.s < pair.t
  pub state : pair.t < length F.states
  pub right : List ℕ
  pub at : slice_get rights pair.place ≡ Some right
  pub is : IsRightOf F pair.s pair.t right

-- the two states are among the pairs
abbrev pub HasPlace : ℕ → ℕ → List PlacedPair → Type 0
HasPlace s t pairs = (pair : PlacedPair) × Contains pairs pair × (pair.s ≡ s) × (pair.t ≡ t)

-- each two of the first states are
abbrev pub HavePlaces : ℕ → List PlacedPair → Type 0
HavePlaces count pairs = (s t : ℕ) → s < t → t < count → HasPlace s t pairs

-- the pairs are all pairs of states, with the places of their right sides
pub record ArePlaced (F : KissFile) (rights : List (List ℕ)) (pairs : List PlacedPair) : Type 0 where
  pub placed : All (IsPlaced F rights) pairs
  pub each : HavePlaces (length F.states) pairs

-- for each of the first partitions of the list, whether it is below q
pub record AreBelowUpTo (rights : List (List ℕ)) (q : List ℕ) (count : ℕ) (below : List Bool) : Type 0 where
  pub size : length below ≡ count
  pub each : (k : ℕ) (d : Bool) (right : List ℕ) → k < count → slice_get rights k ≡ Some right → IsTrue (slice_index_or below k d) ↔ Le right q

-- for each partition of the list
abbrev pub AreBelow : List (List ℕ) → List ℕ → List Bool → Type 0
AreBelow rights q below = AreBelowUpTo rights q (length rights) below
