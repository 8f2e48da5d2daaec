-- What lines of a KISS2 text say (source: SIS manual, KISS2).
use Rattle.std.specs.Prelude.{ℕ, Bool, not, List, [], ◌∷◌, ◌++◌, Option, filter, find, map, slice_get}
use Rattle.std.specs.Option.{is_some, option_map, option_or}
use Rattle.std.specs.Str.{bytes_eq}
use Rattle.hs_io.specs.declared.lines.Line.{Line}
use Rattle.kiss2.specs.declared.line_kind.LineKind.{LineKind}
use Rattle.kiss2.specs.declared.line_kind.LineKind.TheVariants.{InputCount, OutputCount, Reset, Row}
use Rattle.kiss2.specs.Words.{current_field, field_at, is_name, is_of_kind, decimal_value, operands}

-- the first line of that kind
abbrev pub line_with : LineKind → List Line → Option Line
line_with kind lines = find (is_of_kind kind) lines

abbrev pub has_stood : LineKind → List Line → Bool
has_stood kind lines = is_some (line_with kind lines)

-- the numbers of inputs and outputs
abbrev pub inputs_said : List Line → Option ℕ
inputs_said lines = option_map (λ line. decimal_value (field_at 1 line)) (line_with InputCount lines)

abbrev pub outputs_said : List Line → Option ℕ
outputs_said lines = option_map (λ line. decimal_value (field_at 1 line)) (line_with OutputCount lines)

-- the names that a line of that kind gives
abbrev pub names_said : LineKind → List Line → Option (List (List ℕ))
names_said kind lines = option_map operands (line_with kind lines)

-- the rows
abbrev pub row_lines : List Line → List Line
row_lines lines = filter (is_of_kind Row) lines

-- the names, each once, in the order of their first appearance
unfoldable pub each_once : List (List ℕ) → List (List ℕ)
each_once [] = []
each_once (name ∷ names) = name ∷ filter (λ other. not (bytes_eq other name)) (each_once names)

-- the names of states at that place of the rows
abbrev pub names_in_column : ℕ → List Line → List (List ℕ)
names_in_column place rows = filter is_name (map (field_at place) rows)

-- the names of the states in the order of their numbers: those of the current-state column, by first appearance there,
-- and then those of the next-state column alone, by first appearance there
unfoldable pub state_names : List Line → List (List ℕ)
state_names lines = each_once (names_in_column 1 (row_lines lines) ++ names_in_column 2 (row_lines lines))

-- the name of the reset state: that of `.r`, and without it the first row's current state
abbrev pub reset_name : List Line → Option (List ℕ)
reset_name lines =
    option_or (option_map (field_at 1) (line_with Reset lines)) (option_map current_field (slice_get (row_lines lines) 0))
