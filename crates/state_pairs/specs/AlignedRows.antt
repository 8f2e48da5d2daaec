-- Rows of two states paired place by place.
use Rattle.std.specs.Prelude.{ℕ, ◌≡◌, Bool, Contains, IsTrue, List, Option, length}
use Rattle.kiss_file.specs.declared.file.KissFile.{KissFile}
use Rattle.kiss_file.specs.declared.file.KissRow.{KissRow}
use Rattle.state_rows.specs.Columns.{HaveOneCube, HaveSameCubes, IsAtPlace}
use Rattle.state_rows.specs.Places.{IsNumberOf}
use Rattle.state_pairs.specs.RowLabels.{IsOfState}

-- a row gives the same label as another; if the least symbol is wanted, it is that row itself
pub record Represents (said : KissRow → Option ℕ) (least : Bool) (row other : KissRow) : Type 0 where
  pub label : said row ≡ said other
  pub itself : IsTrue least → row ≡ other

-- rows at one place of two lists have the same cube, and represent two rows
pub record AreRepresented (rows : List KissRow) (first second : List ℕ) (said : KissRow → Option ℕ) (least : Bool) (row other : KissRow) : Type 0 where
  pub place : ℕ
  pub shown : KissRow
  pub partner : KissRow
  pub at_first : IsAtPlace rows first place shown
  pub at_second : IsAtPlace rows second place partner
  pub cubes : HaveOneCube shown partner
  pub represents_first : Represents said least shown row
  pub represents_second : Represents said least partner other

-- two lists of rows of two states: each row of the first state has one of the second with its cube, and rows at one place
-- of the lists represent the two
pub record AreAligned (F : KissFile) (s t : ℕ) (first second : List ℕ) (said : KissRow → Option ℕ) (least : Bool) : Type 0 where
  pub own_first : (i : ℕ) → Contains first i → IsNumberOf F s i
  pub own_second : (i : ℕ) → Contains second i → IsNumberOf F t i
  pub count : length first ≡ length second
  pub each : (row : KissRow) → IsOfState F s row
      → (other : KissRow) × IsOfState F t other × HaveOneCube row other × AreRepresented F.rows first second said least row other

-- two lists hold all rows of two states, and rows at one place have the same cube
pub record HoldAllRows (F : KissFile) (s t : ℕ) (first second : List ℕ) : Type 0 where
  pub own_first : (i : ℕ) → Contains first i → IsNumberOf F s i
  pub own_second : (i : ℕ) → Contains second i → IsNumberOf F t i
  pub each_first : (row : KissRow) → IsOfState F s row → (k : ℕ) × IsAtPlace F.rows first k row
  pub each_second : (row : KissRow) → IsOfState F t row → (k : ℕ) × IsAtPlace F.rows second k row
  pub cubes : HaveSameCubes F.rows first second
