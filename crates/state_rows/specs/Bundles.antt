-- Rows in bundles, and what a word marks of them.
use Rattle.std.specs.Prelude.{ℕ, ◌≡◌, ◌<◌, ◌≤◌, ◌^◌, ◌↔◌, All, AllPairs, Contains, IfSome, List, None, Option, true, Some, [], length, slice_get, slice_index, slice_index_or}
use Rattle.std.specs.Int.{bit_at}
use Rattle.cubes.specs.declared.cube.Cube.{Cube}
use Rattle.kiss_file.specs.declared.file.KissRow.{KissRow}
use Rattle.pattern_bundles.specs.declared.pattern.Pattern.{Pattern}
use Rattle.state_rows.specs.declared.bundles.Aspect.{Aspect}
use Rattle.state_rows.specs.declared.bundles.Aspect.TheVariants.{Symbols, Next, Outputs}
use Rattle.state_rows.specs.declared.bundles.RowBundle.{RowBundle}
use Rattle.state_rows.specs.Least.{IsMetBy}
use Rattle.state_rows.specs.Columns.{IsAtPlace}
use Rattle.state_rows.specs.Places.{AreOfState, ContradictsRow}

-- the characters of a cube as a pattern
abbrev pub cube_pattern : Cube → Pattern
cube_pattern cube = record { care = cube.care; value = cube.value }

-- the number of a next state as a pattern of 16 places, and no bit if none is named
abbrev pub next_pattern : Option ℕ → Pattern
next_pattern None = record { care = 0; value = 0 }
next_pattern (Some t) = record { care = 65535; value = t }

-- the outputs that a row gives as a pattern
abbrev pub output_pattern : KissRow → Pattern
output_pattern row = record { care = row.care; value = row.value }

-- what a row tells under one aspect, as a pattern
abbrev pub pattern_of : Aspect → KissRow → Pattern
pattern_of Symbols row = cube_pattern row.cube
pattern_of Next row = next_pattern row.to
pattern_of Outputs row = output_pattern row

-- the row has a cube of that width, and the number of its next state has 16 bits
pub record IsFit (width : ℕ) (row : KissRow) : Type 0 where
  pub cube_width : row.cube.width ≡ width
  pub next_state : IfSome row.to (λ t. t < 2 ^ 16)

-- all rows are so, for one width
abbrev pub AreFit : List KissRow → Type 0
AreFit rows = (width : ℕ) × All (IsFit width) rows

-- the patterns are those of the first rows with these numbers
pub record ArePatterns (aspect : Aspect) (rows : List KissRow) (numbers : List ℕ) (count : ℕ) (patterns : List Pattern) : Type 0 where
  pub size : length patterns ≡ count
  pub each : (k : ℕ) (row : KissRow) → k < count → slice_get rows (slice_index numbers k) ≡ Some row → slice_get patterns k ≡ Some (pattern_of aspect row)

-- the bundle holds the patterns of rows with ascending numbers
pub record IsBundle (rows : List KissRow) (bundle : RowBundle) : Type 0 where
  pub few : length bundle.numbers ≤ 64
  pub inside : All (λ i. i < length rows) bundle.numbers
  pub ascending : AllPairs (λ i j. i < j) bundle.numbers
  pub cubes : ArePatterns Symbols rows bundle.numbers (length bundle.numbers) bundle.cubes
  pub nexts : ArePatterns Next rows bundle.numbers (length bundle.numbers) bundle.nexts
  pub outputs : ArePatterns Outputs rows bundle.numbers (length bundle.numbers) bundle.outputs

-- the number is that of a row in one of the bundles
abbrev pub IsInBundles : List RowBundle → ℕ → Type 0
IsInBundles bundles i = (bundle : RowBundle) × Contains bundles bundle × Contains bundle.numbers i

-- the bundles hold the rows with these numbers
pub record AreBundles (rows : List KissRow) (numbers : List ℕ) (bundles : List RowBundle) : Type 0 where
  pub right : (bundle : RowBundle) → Contains bundles bundle → IsBundle rows bundle
  pub own : (bundle : RowBundle) (i : ℕ) → Contains bundles bundle → Contains bundle.numbers i → Contains numbers i
  pub each : (i : ℕ) → Contains numbers i → IsInBundles bundles i

-- the bundles of a state
abbrev pub bundles_of : List (List RowBundle) → ℕ → List RowBundle
bundles_of bundles s = slice_index_or bundles s []

-- for each state, its rows in bundles
pub record ListBundles (rows : List KissRow) (states : ℕ) (bundles : List (List RowBundle)) : Type 0 where
  pub size : length bundles ≡ states
  pub right : (s : ℕ) (bundle : RowBundle) → Contains (bundles_of bundles s) bundle → IsBundle rows bundle
  pub own : (s i : ℕ) → IsInBundles (bundles_of bundles s) i → (row : KissRow) × (slice_get rows i ≡ Some row) × (row.from ≡ s)
  pub each : (i : ℕ) (row : KissRow) → slice_get rows i ≡ Some row → IsInBundles (bundles_of bundles row.from) i

-- the word marks the places of those rows with these numbers for which this holds, and nothing else
pub record MarksRows (rows : List KissRow) (numbers : List ℕ) (P : KissRow → Type 0) (word : ℕ) : Type 0 where
  pub each : (k : ℕ) (row : KissRow) → IsAtPlace rows numbers k row → (bit_at word k ≡ 1) ↔ P row
  pub no_more : (k : ℕ) → bit_at word k ≡ 1 → k < length numbers

-- the bundle holds rows of the state of the row, and all of them and the row are fit for one width
pub record IsComparable (rows : List KissRow) (row : KissRow) (bundle : RowBundle) : Type 0 where
  pub right : IsBundle rows bundle
  pub state : AreOfState rows row.from bundle.numbers
  pub fit : All (IsFit row.cube.width) rows
  pub row_fit : IsFit row.cube.width row

-- a search among these numbers found one whose row contradicts the row, and found the least if some such number is below
-- the bound
pub record IsFirstAgainst (rows : List KissRow) (Among : ℕ → Type 0) (bound : ℕ) (row : KissRow) (found : Option ℕ) : Type 0 where
  pub some : IfSome found (ContradictsRow rows row)
  pub least : (i : ℕ) → Among i → i < bound → ContradictsRow rows row i → IsMetBy found true i

-- the row names this next state or none
abbrev pub NamesNoOther : ℕ → KissRow → Type 0
NamesNoOther next row = (v : ℕ) → row.to ≡ Some v → v ≡ next
