-- Cells: a block of states with the values that some state of it has on bits of other parts.
use Rattle.std.specs.Prelude.{◌≡◌, ◌↔◌, ℕ, ◌<◌, Bool, Contains, List, Option, length, map, slice_index}
use Rattle.std.specs.List.Sorted.{IsStrictlyIncreasing}
use Rattle.cubes.specs.Symbol.{bit}
use Rattle.partition.specs.Partition.{Together}
use Rattle.part_machines.specs.Fields.{HoldsValues, IsFieldOf}

-- the values that the word of a state has on bits
abbrev pub values_of : List ℕ → List ℕ → ℕ → List Bool
values_of words bits s = map (bit (slice_index words s)) bits

-- some state of the block of s has these values
pub record Shows (p words bits : List ℕ) (s : ℕ) (values : List Bool) : Type 0 where
  pub state : ℕ
  pub together : Together p s state
  pub has : values_of words bits state ≡ values

-- the two states are in one block and have the same values
abbrev pub InOneCell : (p words bits : List ℕ) → ℕ → ℕ → Type 0
InOneCell p words bits s t = Together p s t × (values_of words bits s ≡ values_of words bits t)

-- no lesser state is in the cell of the state
pub record IsLeastOfCell (p words bits : List ℕ) (s : ℕ) : Type 0 where
  pub state : s < length p
  pub least : (t : ℕ) → t < s → ¬ InOneCell p words bits t s

-- the least states of the cells, ascending
pub record AreCells (p words bits leasts : List ℕ) : Type 0 where
  pub each : (s : ℕ) → Contains leasts s ↔ IsLeastOfCell p words bits s
  pub ascend : IsStrictlyIncreasing leasts

-- the field of the cell of a state, among the values that its block shows
abbrev pub IsCellField : (p words bits : List ℕ) → ℕ → List (Option Bool) → Type 0
IsCellField p words bits s field = IsFieldOf (Shows p words bits s) (values_of words bits s) field

-- two states of a block whose fields hold the same values are in one cell
abbrev pub FieldsAreApart : Type 0
FieldsAreApart =
    (p words bits : List ℕ) (s t : ℕ) (values : List Bool) (one other : List (Option Bool)) → Together p s t → IsCellField p words bits s one
    → IsCellField p words bits t other → HoldsValues one values → HoldsValues other values → InOneCell p words bits s t

-- all values are held by the field of some state of each block
abbrev pub FieldsHoldAll : Type 0
FieldsHoldAll =
    (p words bits : List ℕ) (s : ℕ) (values : List Bool) → s < length p → length values ≡ length bits
    → (t : ℕ) × Together p s t × ((field : List (Option Bool)) → IsCellField p words bits t field → HoldsValues field values)
