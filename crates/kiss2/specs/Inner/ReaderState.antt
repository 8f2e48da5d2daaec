-- What the reader keeps while it judges line after line.
use Rattle.std.specs.Prelude.{◌≡◌, ℕ, ◌<◌, ◌≤◌, ◌^◌, All, List, [], ◌∷◌, Option, Some, None, ◌++◌, Result, Ok, Err, filter, if◌then◌else◌, length, unwrap_or}
use Rattle.std.specs.Option.{option_map}
use Rattle.std.specs.List.{flat_map, list_any}
use Rattle.std.specs.Str.{bytes_eq}
use Rattle.hs_io.specs.declared.lines.Line.{Line}
use Rattle.kiss2.specs.declared.fault.KissFail.{KissFail}
use Rattle.kiss2.specs.declared.fault.KissFail.TheVariants.{Refused}
use Rattle.kiss2.specs.declared.fault.KissFail.TheVariants as fails
use Rattle.kiss2.specs.declared.fault.KissKind.{KissKind}
use Rattle.kiss2.specs.declared.line_operands.LineFail.{LineFail}
use Rattle.kiss2.specs.declared.line_operands.LineFail.TheVariants.{Fault, NoMemory}
use Rattle.kiss2.specs.declared.standing.ResetLine.{ResetLine}
use Rattle.kiss2.specs.declared.standing.Said.{Said}
use Rattle.kiss2.specs.declared.line_kind.LineKind.TheVariants.{InputNames, OutputNames, Reset, RowCount, StateCount}
use Rattle.kiss2.specs.Words.{current_field, field_at, is_name, next_field}
use Rattle.kiss2.specs.Kiss.{HaveNoFault}
use Rattle.kiss2.specs.Standing.{each_once, has_stood, inputs_said, line_with, names_in_column, names_said, outputs_said, row_lines}

-- a failure names the fault, unless memory ran out
abbrev pub FailsWith : Option KissKind → LineFail → Type 0
FailsWith fault (Fault kind) = fault ≡ Some kind
FailsWith fault NoMemory = Unit {0}

-- the failure of the text at the line of that number
abbrev pub fail_at : ℕ → LineFail → KissFail
fail_at number (Fault kind) = Refused (record { line = number; kind = kind })
fail_at number NoMemory = fails.NoMemory

-- an answer to a line with a fault, or to one with none
abbrev pub Judges : {T : Type 0} → Result T LineFail → Option KissKind → (T → Type 0) → Type 0
Judges (Ok value) fault P = (fault ≡ None) × P value
Judges (Err fail) fault P = FailsWith fault fail

-- names, and after them those others that are new
abbrev pub once_after : List (List ℕ) → List (List ℕ) → List (List ℕ)
once_after names [] = names
once_after names (other ∷ others) = once_after (if list_any (bytes_eq other) names then names else names ++ other ∷ []) others

-- the names of states on a row
abbrev pub names_on : Line → List (List ℕ)
names_on line = filter is_name (current_field line ∷ next_field line ∷ [])

-- the names of states in the order in which they come
unfoldable pub names_seen : List Line → List (List ℕ)
names_seen lines = each_once (flat_map names_on (row_lines lines))

-- what is kept of the line of `.r`
abbrev pub reset_line : Line → ResetLine
reset_line line = record { number = line.number; name = field_at 1 line }

-- what is kept after these lines
pub record Stands (said : Said) (before : List Line) : Type 0 where
  pub inputs : said.inputs ≡ inputs_said before
  pub outputs : said.outputs ≡ outputs_said before
  pub row_word : said.row_word ≡ has_stood RowCount before
  pub state_word : said.state_word ≡ has_stood StateCount before
  pub reset : said.reset ≡ option_map reset_line (line_with Reset before)
  pub input_names : said.input_names ≡ names_said InputNames before
  pub output_names : said.output_names ≡ names_said OutputNames before
  pub rows : said.rows ≡ length (row_lines before)
  pub states : said.states ≡ names_seen before

-- there are not many names
pub record IsSmall (said : Said) : Type 0 where
  pub states : length said.states ≤ 256
  pub input_names : length (unwrap_or said.input_names []) < 256
  pub output_names : length (unwrap_or said.output_names []) < 256

-- what is kept of lines without a fault: what they say, and the lines of their rows
pub record Keeps (said : Said) (kept lines : List Line) : Type 0 where
  pub stands : Stands said lines
  pub small : IsSmall said
  pub rows : kept ≡ row_lines lines
  pub faultless : HaveNoFault lines

-- the names of the states on these rows
unfoldable pub names_in_columns : List Line → List (List ℕ)
names_in_columns rows = each_once (names_in_column 1 rows ++ names_in_column 2 rows)

-- the fields are short enough for their lengths to be 32-bit numbers
abbrev pub HasShortFields : Line → Type 0
HasShortFields line = All (λ field. length field < 2 ^ 32) line.fields
