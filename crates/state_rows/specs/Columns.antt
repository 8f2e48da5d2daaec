-- States with the same cubes, and the places kept for each column of their next states.
use Rattle.std.specs.Prelude.{ℕ, ◌≡◌, ◌<◌, Contains, List, Some, length, slice_get, slice_index}
use Rattle.kiss_file.specs.declared.file.KissRow.{KissRow}
use Rattle.state_rows.specs.Places.{places_of}

-- the row at a place of a list of numbers
abbrev pub IsAtPlace : List KissRow → List ℕ → ℕ → KissRow → Type 0
IsAtPlace rows numbers place row = (place < length numbers) × (slice_get rows (slice_index numbers place) ≡ Some row)

-- the rows have the same cube
pub record HaveOneCube (row other : KissRow) : Type 0 where
  pub care : row.cube.care ≡ other.cube.care
  pub value : row.cube.value ≡ other.cube.value

-- the rows at each place of two lists of numbers have the same cube
pub record HaveSameCubes (rows : List KissRow) (first second : List ℕ) : Type 0 where
  pub count : length first ≡ length second
  pub cubes : (place : ℕ) (row other : KissRow) → IsAtPlace rows first place row → IsAtPlace rows second place other → HaveOneCube row other

-- the rows at two places name one next state
abbrev pub NameOne : List KissRow → List ℕ → ℕ → ℕ → Type 0
NameOne rows numbers k j = (row other : KissRow) → IsAtPlace rows numbers k row → IsAtPlace rows numbers j other → row.to ≡ other.to

-- at a kept place each of the states names the same next state as at the place
abbrev pub IsNamedByKept : List KissRow → List (List ℕ) → (states kept : List ℕ) → ℕ → Type 0
IsNamedByKept rows places states kept k = (j : ℕ) × Contains kept j × ((s : ℕ) → Contains states s → NameOne rows (places_of places s) k j)

-- the kept places are below the count, and for each place below the count there is a kept one at which each state of that
-- kind names the same next state
pub record RepresentColumns (rows : List KissRow) (places : List (List ℕ)) (IsOne : ℕ → Type 0) (count : ℕ) (kept : List ℕ) : Type 0 where
  pub within : (j : ℕ) → Contains kept j → j < count
  pub each : (k : ℕ) → k < count → (j : ℕ) × Contains kept j × ((s : ℕ) → IsOne s → NameOne rows (places_of places s) k j)

-- the state has that leader
abbrev pub IsLedBy : List ℕ → ℕ → ℕ → Type 0
IsLedBy leaders leader s = (s < length leaders) × (slice_index leaders s ≡ leader)

-- for each of the first leaders, places that represent the columns of its states
pub record AreKept (rows : List KissRow) (places : List (List ℕ)) (leaders : List ℕ) (count : ℕ) (kept : List (List ℕ)) : Type 0 where
  pub size : length kept ≡ count
  pub each : (leader : ℕ) → leader < count
      → RepresentColumns rows places (IsLedBy leaders leader) (length (places_of places leader)) (places_of kept leader)

-- the numbers are those at the places
pub record ArePicked (numbers kept picked : List ℕ) : Type 0 where
  pub count : length picked ≡ length kept
  pub each : (k : ℕ) → k < length kept → slice_index picked k ≡ slice_index numbers (slice_index kept k)

-- the numbers of the rows of two states at kept places, which represent the columns of both
pub record RepresentBoth (rows : List KissRow) (first second few others : List ℕ) : Type 0 where
  pub kept : List ℕ
  pub picked_first : ArePicked first kept few
  pub picked_second : ArePicked second kept others
  pub within : (j : ℕ) → Contains kept j → j < length first
  pub each : (k : ℕ) → k < length first → (j : ℕ) × Contains kept j × NameOne rows first k j × NameOne rows second k j

-- states with one leader have the same cubes, and for them the columns hold the rows at places that represent all columns
pub record AreColumns (rows : List KissRow) (places : List (List ℕ)) (leaders : List ℕ) (columns : List (List ℕ)) : Type 0 where
  pub size : length leaders ≡ length places
  pub count : length columns ≡ length places
  pub alike : (s t : ℕ) → s < length places → t < length places → slice_index leaders s ≡ slice_index leaders t
      → HaveSameCubes rows (places_of places s) (places_of places t)
  pub shown : (s t : ℕ) → s < length places → t < length places → slice_index leaders s ≡ slice_index leaders t
      → RepresentBoth rows (places_of places s) (places_of places t) (places_of columns s) (places_of columns t)
