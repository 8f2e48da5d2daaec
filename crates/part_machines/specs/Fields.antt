-- The fields of words: for words that are shown, input fields that share no symbol and together hold every symbol.
use Rattle.std.specs.Prelude.{◌≡◌, ◌≢◌, ℕ, ◌<◌, Bool, List, None, Option, Some, length, slice_get, take}
use Rattle.cubes.specs.Field.{Allows}
use Rattle.std.specs.List.{AllZip}

-- at place k some shown word leaves v: it has the same values before k, and another value at k
pub record LeavesAt (Shown : List Bool → Type 0) (v : List Bool) (k : ℕ) : Type 0 where
  pub other : List Bool
  pub shown : Shown other
  pub before : take k other ≡ take k v
  pub differs : slice_get other k ≢ slice_get v k

-- the field has the bit of v exactly at those places at which a shown word leaves v, and elsewhere a dash
pub record IsFieldOf (Shown : List Bool → Type 0) (v : List Bool) (field : List (Option Bool)) : Type 0 where
  pub size : length field ≡ length v
  pub literal : (k : ℕ) (b : Bool) → slice_get v k ≡ Some b → LeavesAt Shown v k → slice_get field k ≡ Some (Some b)
  pub dash : (k : ℕ) → k < length v → ¬ LeavesAt Shown v k → slice_get field k ≡ Some None

-- the field has a character for each value, and each that is not a dash is that value
abbrev pub HoldsValues : List (Option Bool) → List Bool → Type 0
HoldsValues field values = AllZip Allows field values
