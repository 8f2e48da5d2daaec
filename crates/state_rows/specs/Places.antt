-- The numbers of the rows of each state.
use Rattle.std.specs.Prelude.{ℕ, ◌≡◌, ◌<◌, AllPairs, List, Contains, Some, [], length, slice_get, slice_index_or}
use Rattle.kiss_file.specs.declared.file.KissFile.{KissFile}
use Rattle.kiss_file.specs.declared.file.KissRow.{KissRow}
use Rattle.state_rows.specs.Conflict.{Contradicts}

-- the numbers of the rows of a state
abbrev pub places_of : List (List ℕ) → ℕ → List ℕ
places_of places s = slice_index_or places s []

-- for each state, the numbers of its rows among the first rows, ascending
pub record ArePlaces (rows : List KissRow) (states count : ℕ) (places : List (List ℕ)) : Type 0 where
  pub size : length places ≡ states
  pub own : (s i : ℕ) → Contains (places_of places s) i → (row : KissRow) × (i < count) × (slice_get rows i ≡ Some row) × (row.from ≡ s)
  pub each : (i : ℕ) (row : KissRow) → i < count → slice_get rows i ≡ Some row → Contains (places_of places row.from) i
  pub ascending : (s : ℕ) → AllPairs (λ i j. i < j) (places_of places s)

-- for each state, the numbers of its rows in any order
pub record ListRows (rows : List KissRow) (states : ℕ) (places : List (List ℕ)) : Type 0 where
  pub size : length places ≡ states
  pub own : (s i : ℕ) → Contains (places_of places s) i → (row : KissRow) × (slice_get rows i ≡ Some row) × (row.from ≡ s)
  pub each : (i : ℕ) (row : KissRow) → slice_get rows i ≡ Some row → Contains (places_of places row.from) i

-- the row with that number contradicts the row
abbrev pub ContradictsRow : List KissRow → KissRow → ℕ → Type 0
ContradictsRow rows row i = (other : KissRow) × (slice_get rows i ≡ Some other) × Contradicts other row

-- the row with that number belongs to the state
abbrev pub IsNumberOf : KissFile → (state number : ℕ) → Type 0
IsNumberOf F state number = (row : KissRow) × (slice_get F.rows number ≡ Some row) × (row.from ≡ state)

-- each number is that of a row of the state
abbrev pub AreOfState : List KissRow → (state : ℕ) → List ℕ → Type 0
AreOfState rows state numbers = (i : ℕ) → Contains numbers i → (row : KissRow) × (slice_get rows i ≡ Some row) × (row.from ≡ state)
