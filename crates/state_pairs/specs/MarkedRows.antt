-- Searches over the rows of a bundle that a word marks.
use Rattle.std.specs.Prelude.{ℕ, ◌≡◌, ◌<◌, ◌^◌, ◌⊎◌, Bool, IfSome, List, Option, length}
use Rattle.std.specs.Int.{bit_at}
use Rattle.cubes.specs.Cube.{Meets}
use Rattle.kiss_file.specs.declared.file.KissFile.{KissFile}
use Rattle.kiss_file.specs.declared.file.KissRow.{KissRow}
use Rattle.state_rows.specs.Columns.{IsAtPlace}
use Rattle.state_rows.specs.Least.{IsMetBy}
use Rattle.state_pairs.specs.RowLabels.{AreApartAt}

-- some row with one of these numbers differs from the row at the symbol with that number
abbrev pub IsApartIn : (KissRow → Option ℕ) → List KissRow → List ℕ → KissRow → ℕ → Type 0
IsApartIn said rows numbers row x = (k : ℕ) × (other : KissRow) × IsAtPlace rows numbers k other × AreApartAt said row other x

-- a search has met every symbol at which the other row differs from the row
abbrev pub MeetsEach : (KissRow → Option ℕ) → KissRow → Option ℕ → Bool → KissRow → Type 0
MeetsEach said row found least other = (y : ℕ) → AreApartAt said row other y → IsMetBy found least y

-- a search over the rows with these numbers: what it found, and what it has met
pub record IsSearchedIn (said : KissRow → Option ℕ) (F : KissFile) (numbers : List ℕ) (row : KissRow) (least : Bool) (found : Option ℕ) : Type 0 where
  pub some : IfSome found (IsApartIn said F.rows numbers row)
  pub within : IfSome found (λ x. x < 2 ^ F.inputs)
  pub met : (k : ℕ) (other : KissRow) → IsAtPlace F.rows numbers k other → MeetsEach said row found least other

-- the word marks some of the rows with these numbers, and each other one for which this holds is done
pub record AreLeft (rows : List KissRow) (numbers : List ℕ) (P Done : KissRow → Type 0) (word : ℕ) : Type 0 where
  pub inside : (k : ℕ) → bit_at word k ≡ 1 → k < length numbers
  pub each : (k : ℕ) (row : KissRow) → IsAtPlace rows numbers k row → P row → (bit_at word k ≡ 1) ⊎ Done row

-- a search over the rows with these numbers which the word has left
pub record IsSearchedTo (said : KissRow → Option ℕ) (F : KissFile) (numbers : List ℕ) (row : KissRow) (least : Bool) (word : ℕ) (found : Option ℕ) : Type 0 where
  pub some : IfSome found (IsApartIn said F.rows numbers row)
  pub within : IfSome found (λ x. x < 2 ^ F.inputs)
  pub left : AreLeft F.rows numbers (λ other. Meets row.cube other.cube) (MeetsEach said row found least) word
