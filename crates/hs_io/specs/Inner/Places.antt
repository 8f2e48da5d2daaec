-- For private functions and proofs only: the places of texts in a shelf in memory.
use Rattle.std.specs.Prelude.{◌≡◌, ℕ, ◌<◌, List, Option, Some, None, true, false, cond, length, slice_index_or}
use Rattle.std.specs.Map.{lookup}
use Rattle.std.specs.Str.{bytes_eq}

-- what each name holds after these bytes were put under a name
abbrev pub HoldsAlso : List (List ℕ × List ℕ) → List (List ℕ × List ℕ) → List ℕ → List ℕ → Type 0
HoldsAlso old new name bytes =
    (other : List ℕ) → lookup (bytes_eq other) new ≡ cond (bytes_eq other name) (Some bytes) (lookup (bytes_eq other) old)

-- the text at a place has another name
abbrev pub IsOtherAt : List (List ℕ × List ℕ) → List ℕ → ℕ → Type 0
IsOtherAt texts name place = (past : List ℕ × List ℕ) → bytes_eq name (slice_index_or texts place past).0 ≡ false

-- the first place of a text with this name, if there is one
abbrev pub IsPlaceOf : List (List ℕ × List ℕ) → List ℕ → Option ℕ → Type 0
IsPlaceOf texts name None = (k : ℕ) → k < length texts → IsOtherAt texts name k
IsPlaceOf texts name (Some place) =
    (place < length texts)
    × ((past : List ℕ × List ℕ) → bytes_eq name (slice_index_or texts place past).0 ≡ true)
    × ((k : ℕ) → k < place → IsOtherAt texts name k)
