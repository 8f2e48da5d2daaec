-- What is known of lines without a fault.
use Rattle.std.specs.Prelude.{◌≡◌, ℕ, ◌≤◌, true, false, Contains, List, length, slice_get}
use Rattle.std.specs.List.{AllZip}
use Rattle.hs_io.specs.declared.lines.Line.{Line}
use Rattle.kiss2.specs.declared.record.Table.{Table}
use Rattle.kiss2.specs.Kiss.{IsRowOf}
use Rattle.kiss2.specs.Standing.{reset_name, row_lines, state_names}
use Rattle.kiss2.specs.Words.{current_field, input_field, is_character_field, is_open, next_field, output_field}

-- a row without a fault, given the numbers of inputs and outputs
pub record IsGoodRow (inputs outputs : ℕ) (line : Line) : Type 0 where
  pub fields : length line.fields ≡ 4
  pub input : is_character_field inputs (input_field line) ≡ true
  pub current : is_open (current_field line) ≡ false
  pub current_short : length (current_field line) ≤ 64
  pub next_short : is_open (next_field line) ≡ false → length (next_field line) ≤ 64
  pub output : is_character_field outputs (output_field line) ≡ true

-- the names on a row are among these
pub record IsKnownRow (states : List (List ℕ)) (line : Line) : Type 0 where
  pub current : Contains states (current_field line)
  pub next : is_open (next_field line) ≡ false → Contains states (next_field line)

-- what the lines of the rows give
pub record IsTableOf (lines : List Line) (table : Table) : Type 0 where
  pub states : table.states ≡ state_names lines
  pub reset : slice_get table.states table.reset ≡ reset_name lines
  pub rows : AllZip (IsRowOf table.states) (row_lines lines) table.rows
