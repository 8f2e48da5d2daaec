-- Which machine a KISS2 text says, or what its first fault is (source: SIS manual, KISS2, narrowed to this product's
-- profile).
use Rattle.std.specs.Prelude.{◌≡◌, ◌==◌, ℕ, ◌⊎◌, true, false, not, if◌then◌else◌, List, Option, Some, None, length, slice_get, take, take_while}
use Rattle.std.specs.List.{AllZip, list_any}
use Rattle.std.specs.Str.{bytes_eq}
use Rattle.cubes.specs.Cube.{text_of}
use Rattle.hs_io.specs.declared.lines.Line.{Line}
use Rattle.hs_io.specs.Lines.{lines_of}
use Rattle.kiss2.specs.declared.fault.KissFault.{KissFault}
use Rattle.kiss2.specs.declared.fault.KissKind.{KissKind}
use Rattle.kiss2.specs.declared.fault.KissKind.TheVariants.{NoRows, ResetUnknown}
use Rattle.kiss_file.specs.declared.file.KissFile.{KissFile}
use Rattle.kiss_file.specs.declared.file.KissRow.{KissRow}
use Rattle.kiss2.specs.declared.line_kind.LineKind.TheVariants.{InputNames, OutputNames, Reset}
use Rattle.kiss2.specs.Faults.{fault_in}
use Rattle.kiss_file.specs.LawfulFile.{IsLawful}
use Rattle.kiss2.specs.Standing.{inputs_said, line_with, names_said, outputs_said, reset_name, row_lines, state_names}
use Rattle.kiss2.specs.Words.{care_in, current_field, is_ending, field_at, input_field, is_open, next_field, output_field, value_in}

-- the lines before the ending word, or all lines if there is none
abbrev pub before_end : List Line → List Line
before_end lines = take_while (λ line. not (is_ending line)) lines

-- the lines that are read
unfoldable pub lines_read : List ℕ → List Line
lines_read bytes = before_end (lines_of bytes)

-- no line has a fault after those before it
abbrev pub HaveNoFault : List Line → Type 0
HaveNoFault lines = (place : ℕ) (line : Line) → slice_get lines place ≡ Some line → fault_in (take place lines) line ≡ None

-- the fault of the lines as a whole, if no line has one: there is no row, or the name of `.r` is no state
abbrev pub reset_unknown : List (List ℕ) → Option Line → Option KissFault
reset_unknown states None = None
reset_unknown states (Some line) =
    if list_any (bytes_eq (field_at 1 line)) states then None else Some (record { line = line.number; kind = ResetUnknown })

abbrev pub closing_fault : List Line → Option KissFault
closing_fault lines =
    if length (row_lines lines) == 0 then Some (record { line = 0; kind = NoRows }) else reset_unknown (state_names lines) (line_with Reset lines)

-- a line with a fault, and no line before it has one
pub record IsFirstFault (lines : List Line) (place : ℕ) (line : Line) (kind : KissKind) : Type 0 where
  pub stands : slice_get lines place ≡ Some line
  pub fault : fault_in (take place lines) line ≡ Some kind
  pub none_before : HaveNoFault (take place lines)

abbrev pub IsLineFault : List Line → ℕ → KissKind → Type 0
IsLineFault lines number kind = (place : ℕ) × (line : Line) × IsFirstFault lines place line kind × (number ≡ line.number)

-- the number of its line and the kind of the first fault of lines
abbrev pub IsFaultOf : List Line → ℕ → KissKind → Type 0
IsFaultOf lines number kind =
    IsLineFault lines number kind ⊎ (HaveNoFault lines × (closing_fault lines ≡ Some (record { line = number; kind = kind })))

-- the next state that a field names, if it names one
abbrev pub IsNextOf : List (List ℕ) → List ℕ → Option ℕ → Type 0
IsNextOf states field None = is_open field ≡ true
IsNextOf states field (Some state) = (is_open field ≡ false) × (slice_get states state ≡ Some field)

-- the row that a line gives, with these names of states
pub record IsRowOf (states : List (List ℕ)) (line : Line) (row : KissRow) : Type 0 where
  pub cube : text_of row.cube ≡ input_field line
  pub from : slice_get states row.from ≡ Some (current_field line)
  pub to : IsNextOf states (next_field line) row.to
  pub care : row.care ≡ care_in (output_field line)
  pub value : row.value ≡ value_in (output_field line)

-- the record that lines without a fault give
pub record IsRecordOf (lines : List Line) (F : KissFile) : Type 0 where
  pub inputs : inputs_said lines ≡ Some F.inputs
  pub outputs : outputs_said lines ≡ Some F.outputs
  pub states : F.states ≡ state_names lines
  pub reset : slice_get F.states F.reset ≡ reset_name lines
  pub rows : AllZip (IsRowOf F.states) (row_lines lines) F.rows
  pub input_names : F.input_names ≡ names_said InputNames lines
  pub output_names : F.output_names ≡ names_said OutputNames lines

-- the lines have no fault and give the record
pub record IsReadAs (lines : List Line) (F : KissFile) : Type 0 where
  pub faultless : HaveNoFault lines
  pub closed : closing_fault lines ≡ None
  pub whole : IsRecordOf lines F

-- the bytes say the machine
abbrev pub Kiss : List ℕ → KissFile → Type 0
Kiss bytes F = IsReadAs (lines_read bytes) F

-- the first fault of the bytes: the number of its line, and its kind
abbrev pub IsKissFault : List ℕ → ℕ → KissKind → Type 0
IsKissFault bytes number kind = IsFaultOf (lines_read bytes) number kind

-- bytes say at most one machine
abbrev pub OneFile : Type 0
OneFile = (bytes : List ℕ) (F G : KissFile) → Kiss bytes F → Kiss bytes G → F ≡ G

-- they have at most one first fault
abbrev pub OneFault : Type 0
OneFault =
    (bytes : List ℕ) (number other : ℕ) (kind another : KissKind) → IsKissFault bytes number kind → IsKissFault bytes other another
    → (number ≡ other) × (kind ≡ another)

-- never both
abbrev pub NeverBoth : Type 0
NeverBoth = (bytes : List ℕ) (F : KissFile) (number : ℕ) (kind : KissKind) → Kiss bytes F → IsKissFault bytes number kind → ⊥

-- and always one of them
abbrev pub AlwaysOne : Type 0
AlwaysOne = (bytes : List ℕ) → ((F : KissFile) × Kiss bytes F) ⊎ ((number : ℕ) × (kind : KissKind) × IsKissFault bytes number kind)

-- what is read is lawful
abbrev pub ReadIsLawful : Type 0
ReadIsLawful = (bytes : List ℕ) (F : KissFile) → Kiss bytes F → IsLawful F
