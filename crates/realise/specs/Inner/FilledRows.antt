-- The rows of all states, with what they leave open filled in.
use Rattle.std.specs.Prelude.{◌≡◌, ℕ, ◌+◌, ◌<◌, ◌^◌, All, Contains, List, length}
use Rattle.cubes.specs.Cube.{HoldsNumber}
use Rattle.kiss_file.specs.declared.file.KissFile.{KissFile}
use Rattle.kiss_file.specs.declared.file.KissRow.{KissRow}
use Rattle.machine_table.specs.declared.open_part.Missing.{Missing}
use Rattle.machine_table.specs.Pieces.{IsRightRow}
use Rattle.machine_table.specs.OpenEntries.{Says, place_of}

-- the row is right at its state
abbrev pub IsRight : KissFile → KissRow → Type 0
IsRight F row = IsRightRow F row.from row

-- a row of the list says the part at the state and the symbol of that number
abbrev pub IsSaidAt : List KissRow → (s x : ℕ) → Missing → Type 0
IsSaidAt filled s x part = (row : KissRow) × Contains filled row × (row.from ≡ s) × HoldsNumber row.cube x × Says part row

-- right rows that say each part of the states below a number, at each symbol
pub record AreFilledBelow (F : KissFile) (count : ℕ) (filled : List KissRow) : Type 0 where
  pub right : All (IsRight F) filled
  pub each : (s x : ℕ) (part : Missing) → s < count → x < 2 ^ F.inputs → place_of part < F.outputs + 1 → IsSaidAt filled s x part

-- right rows that say each part of each state, at each symbol
abbrev pub AreFilled : KissFile → List KissRow → Type 0
AreFilled F filled = AreFilledBelow F (length F.states) filled
