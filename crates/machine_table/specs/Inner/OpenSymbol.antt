-- The first open entry of one state, among the parts at the first places. Private functions need it; no public
-- contract cites it.
use Rattle.std.specs.Prelude.{ℕ, ◌≡◌, ◌<◌, ◌^◌, ◌⊎◌, Contains, IsSome, List, MatchOption, Option, Some, slice_get, slice_index_or}
use Rattle.cubes.specs.declared.cube.Cube.{Cube}
use Rattle.kiss_file.specs.declared.file.KissFile.{KissFile}
use Rattle.kiss_file.specs.declared.file.KissRow.{KissRow}
use Rattle.kiss_file.specs.Machine.{given_bit}
use Rattle.machine_table.specs.declared.open_part.Missing.{Missing}
use Rattle.machine_table.specs.OpenEntries.{IsSaid, Says, place_of}
use Rattle.state_pairs.specs.RowLabels.{IsOfState}
use Rattle.state_rows.specs.Places.{IsNumberOf}

-- at each symbol each part at the first places is given
abbrev pub IsSaidEverywhere : KissFile → (s count : ℕ) → Type 0
IsSaidEverywhere F s count = (number : ℕ) (part : Missing) → number < 2 ^ F.inputs → place_of part < count → IsSaid F s number part

-- the first symbol at which one of these parts is open, and the first such part there
pub record IsFirstOpenAt (F : KissFile) (s count symbol : ℕ) (part : Missing) : Type 0 where
  pub within : symbol < 2 ^ F.inputs
  pub counted : place_of part < count
  pub not_said : IsSaid F s symbol part → ⊥
  pub first : (number : ℕ) (other : Missing) → number < 2 ^ F.inputs → place_of other < count
      → (number < symbol) ⊎ ((number ≡ symbol) × (place_of other < place_of part)) → IsSaid F s number other

-- the first symbol at which one part is open
pub record IsFirstOpenOf (F : KissFile) (s : ℕ) (part : Missing) (symbol : ℕ) : Type 0 where
  pub within : symbol < 2 ^ F.inputs
  pub not_said : IsSaid F s symbol part → ⊥
  pub least : (number : ℕ) → number < symbol → IsSaid F s number part

-- the answer of a search for open parts at the first places
abbrev pub IsFirstAmong : KissFile → (s count : ℕ) → Option (ℕ × Missing) → Type 0
IsFirstAmong F s count found = MatchOption found (IsSaidEverywhere F s count) (λ it. IsFirstOpenAt F s count it.0 it.1)

-- the answer of a search for one open part
abbrev pub IsFirstOf : KissFile → (s : ℕ) → Missing → Option ℕ → Type 0
IsFirstOf F s part found =
    MatchOption found ((number : ℕ) → number < 2 ^ F.inputs → IsSaid F s number part) (IsFirstOpenOf F s part)

-- the row names a next state and gives each of that many outputs
abbrev pub IsFull : ℕ → KissRow → Type 0
IsFull outputs row = IsSome row.to × ((b : ℕ) → b < outputs → IsSome (given_bit b row))

-- each row of the state names a next state and gives every output
abbrev pub SaysAll : KissFile → ℕ → Type 0
SaysAll F s = (row : KissRow) → Contains F.rows row → row.from ≡ s → IsFull F.outputs row

-- each cube is that of a row of the state that names a next state and gives every output
abbrev pub AreFullCubes : KissFile → ℕ → List Cube → Type 0
AreFullCubes F s cubes = (cube : Cube) → Contains cubes cube → (row : KissRow) × IsOfState F s row × IsFull F.outputs row × (row.cube ≡ cube)

-- the cubes are those of the first rows with these numbers that give the part
pub record AreCubesOf (F : KissFile) (s : ℕ) (part : Missing) (numbers : List ℕ) (count : ℕ) (cubes : List Cube) : Type 0 where
  pub own : (cube : Cube) → Contains cubes cube → (i : ℕ) × (row : KissRow) × IsNumberOf F s i × (slice_get F.rows i ≡ Some row) × Says part row × (row.cube ≡ cube)
  pub each : (k d : ℕ) (row : KissRow) → k < count → slice_get F.rows (slice_index_or numbers k d) ≡ Some row → Says part row → Contains cubes row.cube
