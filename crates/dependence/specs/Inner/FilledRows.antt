-- Rows of a state, and rows that are added where they leave a part open. Private functions need it; no public contract
-- cites it.
use Rattle.std.specs.Prelude.{ℕ, ◌+◌, ◌≡◌, ◌<◌, ◌⊎◌, All, Contains, List, Option, Some, None}
use Rattle.cubes.specs.declared.cube.Cube.{Cube}
use Rattle.cubes.specs.Cube.{HoldsNumber, Meets}
use Rattle.kiss_file.specs.declared.file.KissFile.{KissFile}
use Rattle.kiss_file.specs.declared.file.KissRow.{KissRow}
use Rattle.machine_table.specs.declared.open_part.Missing.{Missing}
use Rattle.machine_table.specs.Pieces.{IsRightRow, IsSaidBy}
use Rattle.state_pairs.specs.RowLabels.{IsOfState}
use Rattle.dependence.specs.FilledRows.{IsSpecifiedState}
use Rattle.machine_table.specs.OpenEntries.{Says, place_of}

-- each row of the state is among the rows, and each of them is right
pub record AreRowsOf (F : KissFile) (s : ℕ) (rows : List KissRow) : Type 0 where
  pub own : (row : KissRow) → IsOfState F s row → Contains rows row
  pub right : All (IsRightRow F s) rows

-- the first, if there is no other
abbrev pub alone_of : Option ℕ → Option ℕ → Option ℕ
alone_of first None = first
alone_of first (Some other) = None

-- none of the rows says the part at a symbol of the cube
abbrev pub SayNothing : List KissRow → Cube → Missing → Type 0
SayNothing rows cube part = (row : KissRow) → Contains rows row → Meets cube row.cube → ¬ Says part row

-- the row of the cube that says, of the next state and this number of outputs, each part that none of the rows says at
-- a symbol of the cube: the state itself, and 0
pub record IsFilling (rows : List KissRow) (s : ℕ) (cube : Cube) (outputs : ℕ) (added : KissRow) : Type 0 where
  pub same_cube : added.cube ≡ cube
  pub from : added.from ≡ s
  pub next_state : (t : ℕ) → added.to ≡ Some t → t ≡ s
  pub value : added.value ≡ 0
  pub counted : (part : Missing) → Says part added → place_of part < outputs + 1
  pub nothing_else : (part : Missing) → Says part added → SayNothing rows cube part
  pub says : (part : Missing) → place_of part < outputs + 1 → SayNothing rows cube part → Says part added

-- the rows that share a symbol with the cube
pub record AreThoseMet (rows : List KissRow) (cube : Cube) (met : List KissRow) : Type 0 where
  pub among : (row : KissRow) → Contains met row → Contains rows row
  pub each : (row : KissRow) → Contains rows row → Meets cube row.cube → Contains met row

-- rows of the cube's width, among them each row of the state that holds a symbol of the cube
pub record AreNear (F : KissFile) (s : ℕ) (cube : Cube) (rows : List KissRow) : Type 0 where
  pub widths : All (λ row. row.cube.width ≡ cube.width) rows
  pub own : (row : KissRow) (x : ℕ) → IsOfState F s row → HoldsNumber cube x → HoldsNumber row.cube x → Contains rows row

-- Right rows were added to the old ones, and at each symbol of the cube one of the rows or of the added ones says the part.
-- Where the state leaves nothing open, none was added.
pub record Fills (F : KissFile) (s : ℕ) (part : Missing) (cube : Cube) (rows old more : List KissRow) : Type 0 where
  pub right : All (IsRightRow F s) more
  pub kept : (row : KissRow) → Contains old row → Contains more row
  pub each : (x : ℕ) → HoldsNumber cube x → IsSaidBy rows x part ⊎ IsSaidBy more x part
  pub own : IsSpecifiedState F s → more ≡ old

-- Right rows were added to those of the state, and at each symbol one of all these rows says the part. Where the state
-- leaves nothing open, none was added.
pub record FillsPart (F : KissFile) (s : ℕ) (part : Missing) (old more : List KissRow) : Type 0 where
  pub rows : AreRowsOf F s more
  pub kept : (row : KissRow) → Contains old row → Contains more row
  pub each : (x : ℕ) → IsSaidBy more x part
  pub own : IsSpecifiedState F s → more ≡ old
