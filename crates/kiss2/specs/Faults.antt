-- The faults of a line of a KISS2 text, in the order in which they are looked for (source: SIS manual, KISS2, narrowed to
-- this product's profile). The limits are written as numbers.
use Rattle.std.specs.Prelude.{ℕ, ◌==◌, Bool, false, not, ◌||◌, nat_lt, if◌then◌else◌, List, [], ◌∷◌, ◌++◌, Option, Some, None, filter, find, length, slice_index_or, unwrap_or}
use Rattle.std.specs.Option.{is_none, option_map}
use Rattle.std.specs.List.{list_any}
use Rattle.std.specs.Str.{bytes_eq}
use Rattle.hs_io.specs.declared.lines.Line.{Line}
use Rattle.kiss2.specs.declared.line_kind.LineKind.{LineKind}
use Rattle.kiss2.specs.declared.line_kind.LineKind.TheVariants.{Blank, End, InputCount, OutputCount, RowCount, StateCount, Reset, InputNames, OutputNames, Unknown, Row}
use Rattle.kiss2.specs.declared.fault.KissKind.{KissKind}
use Rattle.kiss2.specs.declared.fault.KissKind.TheVariants.{BadByte, UnknownWord, BadNumber, Repeated, MissingCounts, BadFields, BadCube, BadOutput, AnyState, OverLimit}
use Rattle.kiss2.specs.declared.fault.KissLimit.{KissLimit}
use Rattle.kiss2.specs.declared.fault.KissLimit.TheVariants.{Rows, States, Inputs, Outputs, NameBytes}
use Rattle.kiss2.specs.Words.{current_field, has_backslash, input_field, is_character_field, is_name, is_decimal, is_open, line_kind_of, next_field, decimal_value, operands, output_field}
use Rattle.kiss2.specs.Standing.{has_stood, inputs_said, names_said, outputs_said, row_lines, state_names}

-- a fault if the test is true
abbrev pub fault_where : Bool → KissKind → Option KissKind
fault_where test kind = if test then Some kind else None

-- the first fault of a list
abbrev pub first_of : List (Option KissKind) → Option KissKind
first_of [] = None
first_of (None ∷ faults) = first_of faults
first_of (Some fault ∷ faults) = Some fault

-- the first of these names that is longer than 64 bytes
abbrev pub long_name : List (List ℕ) → Option KissKind
long_name names = option_map (λ name. OverLimit NameBytes (length name)) (find (λ name. nat_lt 64 (length name)) names)

-- some name occurs twice
abbrev pub has_twice : List (List ℕ) → Bool
has_twice [] = false
has_twice (name ∷ names) = list_any (bytes_eq name) names || has_twice names

-- the one field after a word
abbrev pub operand_of : List (List ℕ) → List ℕ
operand_of fields = slice_index_or fields 0 []

abbrev pub is_not_one : List (List ℕ) → Bool
is_not_one fields = not (length fields == 1)

-- `.i N` and `.o N`: N is at least 1 and at most that limit
abbrev pub count_fault : KissLimit → ℕ → List (List ℕ) → Option KissKind
count_fault what limit fields =
    let n = operand_of fields in
    first_of
    (fault_where (is_not_one fields) BadFields
    ∷ fault_where (not (is_decimal n) || decimal_value n == 0) BadNumber
    ∷ fault_where (nat_lt limit (decimal_value n)) (OverLimit what (decimal_value n))
    ∷ [])

-- `.p N` and `.s N`: N is compared with nothing
abbrev pub number_fault : List (List ℕ) → Option KissKind
number_fault fields =
    first_of
    (fault_where (is_not_one fields) BadFields
    ∷ fault_where (not (is_decimal (operand_of fields))) BadNumber
    ∷ [])

-- `.r NAME`
abbrev pub reset_fault : List (List ℕ) → Option KissKind
reset_fault fields =
    first_of
    (fault_where (is_not_one fields) BadFields
    ∷ long_name fields
    ∷ [])

-- `.ilb` and `.ob`, given the number of inputs or outputs, if it was said, and the names of the other word
abbrev pub names_fault : Option ℕ → List (List ℕ) → List (List ℕ) → Option KissKind
names_fault count others names =
    first_of
    (fault_where (is_none count) MissingCounts
    ∷ fault_where (not (length names == unwrap_or count 0) || list_any has_backslash names) BadFields
    ∷ long_name names
    ∷ fault_where (has_twice (others ++ names)) Repeated
    ∷ [])

-- a row, given the numbers of inputs and outputs, the number of rows before it, and the names of the states up to it
abbrev pub row_fault : Option ℕ → Option ℕ → ℕ → List (List ℕ) → Line → Option KissKind
row_fault inputs outputs rows states line =
    first_of
    (fault_where (is_none inputs || is_none outputs) MissingCounts
    ∷ fault_where (not (length line.fields == 4)) BadFields
    ∷ fault_where (not (nat_lt rows 65536)) (OverLimit Rows 65537)
    ∷ fault_where (not (is_character_field (unwrap_or inputs 0) (input_field line))) BadCube
    ∷ fault_where (is_open (current_field line)) AnyState
    ∷ long_name (filter is_name (current_field line ∷ next_field line ∷ []))
    ∷ fault_where (nat_lt 256 (length states)) (OverLimit States 257)
    ∷ fault_where (not (is_character_field (unwrap_or outputs 0) (output_field line))) BadOutput
    ∷ [])

-- the fault of a line that is not bad and repeats no word, after the lines before it
abbrev pub form_fault : LineKind → List Line → Line → Option KissKind
form_fault Blank before line = None
form_fault End before line = None
form_fault InputCount before line = count_fault Inputs 32 (operands line)
form_fault OutputCount before line = count_fault Outputs 64 (operands line)
form_fault RowCount before line = number_fault (operands line)
form_fault StateCount before line = number_fault (operands line)
form_fault Reset before line = reset_fault (operands line)
form_fault InputNames before line = names_fault (inputs_said before) (unwrap_or (names_said OutputNames before) []) (operands line)
form_fault OutputNames before line = names_fault (outputs_said before) (unwrap_or (names_said InputNames before) []) (operands line)
form_fault Unknown before line = Some UnknownWord
form_fault Row before line = row_fault (inputs_said before) (outputs_said before) (length (row_lines before)) (state_names (before ++ line ∷ [])) line

-- a word that is allowed once, and was there before
abbrev pub stands_again : LineKind → List Line → Bool
stands_again Blank before = false
stands_again End before = false
stands_again Unknown before = false
stands_again Row before = false
stands_again word before = has_stood word before

-- the fault of a line after the lines before it
unfoldable pub fault_in : List Line → Line → Option KissKind
fault_in before line =
    first_of
    (fault_where line.bad BadByte
    ∷ fault_where (stands_again (line_kind_of line) before) Repeated
    ∷ form_fault (line_kind_of line) before line
    ∷ [])
