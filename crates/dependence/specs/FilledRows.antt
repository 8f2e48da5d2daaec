-- The rows of a state, with what they leave open filled in.
use Rattle.std.specs.Prelude.{◌≡◌, ◌==◌, ℕ, ◌+◌, ◌<◌, ◌^◌, All, Bool, List, filter, length}
use Rattle.kiss_file.specs.declared.file.KissFile.{KissFile}
use Rattle.kiss_file.specs.declared.file.KissRow.{KissRow}
use Rattle.kiss_file.specs.Machine.{IsSpecifiedAt}
use Rattle.machine_table.specs.declared.open_part.Missing.{Missing}
use Rattle.machine_table.specs.OpenEntries.{place_of}
use Rattle.machine_table.specs.Pieces.{IsRightRow, IsSaidBy}

-- the rows that the machine F has for a state, in order
abbrev pub own_rows : KissFile → ℕ → List KissRow
own_rows F s = filter (λ row. row.from == s) F.rows

-- the rows of the state leave nothing open
abbrev pub IsSpecifiedState : KissFile → ℕ → Type 0
IsSpecifiedState F s = (x : List Bool) → length x ≡ F.inputs → IsSpecifiedAt F s x

-- the filled rows of a state: right rows that together say each part at each symbol. They are F's own where those leave
-- nothing open.
pub record AreFilledRows (F : KissFile) (s : ℕ) (rows : List KissRow) : Type 0 where
  pub right : All (IsRightRow F s) rows
  pub each : (x : ℕ) (part : Missing) → x < 2 ^ F.inputs → place_of part < F.outputs + 1 → IsSaidBy rows x part
  pub own : IsSpecifiedState F s → rows ≡ own_rows F s
