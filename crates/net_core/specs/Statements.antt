-- The statements of a BLIF text: what its lines say (source: the SIS manual).
use Rattle.std.specs.Prelude.{ℕ, ◌-◌, ◌==◌, Bool, true, false, not, ◌||◌, if◌then◌else◌, Option, Some, None, List, [], ◌∷◌, length, filter, map, slice_index, slice_index_or, take}
use Rattle.std.specs.Option.{option_or}
use Rattle.std.specs.Str.{bytes_eq}
use Rattle.hs_io.specs.declared.lines.Line.{Line}
use Rattle.hs_io.specs.Lines.{is_skipped}
use Rattle.net_core.specs.declared.Gate.{Gate}
use Rattle.net_core.specs.declared.Latch.{Latch}
use Rattle.net_core.specs.declared.Start.{Start}
use Rattle.net_core.specs.declared.Start.TheVariants.{Zero, One, Free, Unknown}
use Rattle.net_core.specs.JoinedLines.{read_lines}
use Rattle.net_core.specs.Start.{start_digit}
use Rattle.net_core.specs.Words.{model_word, inputs_word, outputs_word, clock_word, latch_word, names_word, rising_edge, no_control}

-- What a line says, by its first field, with the fields after it. A row has all its fields. `Other` is any other word that
-- begins with a dot.
pub data Statement : Type 0 where
  Model : List (List ℕ) → Statement
  Inputs : List (List ℕ) → Statement
  Outputs : List (List ℕ) → Statement
  Clock : List (List ℕ) → Statement
  LatchLine : List (List ℕ) → Statement
  Names : List (List ℕ) → Statement
  Row : List (List ℕ) → Statement
  Other : Statement

-- a field that begins with a dot is a word
abbrev pub is_word : List ℕ → Bool
is_word field = slice_index field 0 == 46

abbrev pub statement_of : List (List ℕ) → Statement
statement_of [] = Row []
statement_of (word ∷ operands) =
    if bytes_eq word model_word then Model operands
    else if bytes_eq word inputs_word then Inputs operands
    else if bytes_eq word outputs_word then Outputs operands
    else if bytes_eq word clock_word then Clock operands
    else if bytes_eq word latch_word then LatchLine operands
    else if bytes_eq word names_word then Names operands
    else if is_word word then Other
    else Row (word ∷ operands)

-- a statement, with the number of its line and whether the line is bad
pub record NumberedStatement : Type 0 where
  pub number : ℕ
  pub bad : Bool
  pub says : Statement

abbrev pub numbered_of : Line → NumberedStatement
numbered_of line = record { number = line.number; bad = line.bad; says = statement_of line.fields }

-- the statements that are read
abbrev pub statements_of : List ℕ → List NumberedStatement
statements_of bytes = map numbered_of (filter (λ line. not (is_skipped line)) (read_lines bytes))

-- what they say
abbrev pub said_in : List ℕ → List Statement
said_in bytes = map (λ statement. statement.says) (statements_of bytes)

abbrev pub is_model : Statement → Bool
is_model (Model names) = true
is_model _ = false

abbrev pub is_clock : Statement → Bool
is_clock (Clock names) = true
is_clock _ = false

abbrev pub inputs_in : Statement → List (List ℕ)
inputs_in (Inputs names) = names
inputs_in _ = []

abbrev pub outputs_in : Statement → List (List ℕ)
outputs_in (Outputs names) = names
outputs_in _ = []

-- the operands of a latch: its input and its output, a type with a control or none, and a start or none
pub record LatchParts : Type 0 where
  pub input : List ℕ
  pub output : List ℕ
  pub kind : Option (List ℕ)
  pub control : Option (List ℕ)
  pub start : Option (List ℕ)

-- the two to five operands by what they mean
abbrev pub latch_parts : List (List ℕ) → Option LatchParts
latch_parts (input ∷ output ∷ []) = Some (record { input = input; output = output; kind = None; control = None; start = None })
latch_parts (input ∷ output ∷ start ∷ []) =
    Some (record { input = input; output = output; kind = None; control = None; start = Some start })
latch_parts (input ∷ output ∷ kind ∷ control ∷ []) =
    Some (record { input = input; output = output; kind = Some kind; control = Some control; start = None })
latch_parts (input ∷ output ∷ kind ∷ control ∷ start ∷ []) =
    Some (record { input = input; output = output; kind = Some kind; control = Some control; start = Some start })
latch_parts _ = None

-- the start that a field says
abbrev pub start_of : List ℕ → Option Start
start_of field =
    if bytes_eq field (start_digit Zero ∷ []) then Some Zero
    else if bytes_eq field (start_digit One ∷ []) then Some One
    else if bytes_eq field (start_digit Free ∷ []) then Some Free
    else if bytes_eq field (start_digit Unknown ∷ []) then Some Unknown
    else None

-- a missing start is unknown
abbrev pub start_said : Option (List ℕ) → Option Start
start_said None = Some Unknown
start_said (Some field) = start_of field

abbrev pub latch_from : LatchParts → Option Start → Option Latch
latch_from parts None = None
latch_from parts (Some start) = Some (record { input = parts.input; output = parts.output; start = start })

-- the latch of these operands, whatever its type, if their number and its start are right
abbrev pub latch_of : Option LatchParts → Option Latch
latch_of None = None
latch_of (Some parts) = latch_from parts (start_said parts.start)

abbrev pub latch_in : Statement → Option Latch
latch_in (LatchLine operands) = latch_of (latch_parts operands)
latch_in _ = None

-- a type is not the one that is supported
abbrev pub is_other_kind : Option (List ℕ) → Bool
is_other_kind None = false
is_other_kind (Some kind) = not (bytes_eq kind rising_edge)

-- a control names a clock, unless it is the word for no control
abbrev pub clock_named : Option (List ℕ) → List (List ℕ)
clock_named None = []
clock_named (Some control) = if bytes_eq control no_control then [] else control ∷ []

abbrev pub control_of : Option LatchParts → List (List ℕ)
control_of None = []
control_of (Some parts) = clock_named parts.control

-- the names of clocks in a statement
abbrev pub clocks_in : Statement → List (List ℕ)
clocks_in (Clock names) = names
clocks_in (LatchLine operands) = control_of (latch_parts operands)
clocks_in _ = []

-- the digits of an output bit
abbrev pub is_bit : List ℕ → Bool
is_bit field = bytes_eq field (48 ∷ []) || bytes_eq field (49 ∷ [])

abbrev pub is_one : List ℕ → Bool
is_one field = bytes_eq field (49 ∷ [])

-- the characters of a plane: 0, 1 and a dash
abbrev pub is_plane_character : ℕ → Bool
is_plane_character c = c == 48 || (c == 49 || c == 45)

-- the plane of a row
abbrev pub plane_of : List (List ℕ) → List ℕ
plane_of (plane ∷ bit ∷ []) = plane
plane_of _ = []

-- the output bit of a row
abbrev pub bit_of : List (List ℕ) → Bool
bit_of (bit ∷ []) = is_one bit
bit_of (plane ∷ bit ∷ []) = is_one bit
bit_of _ = false

-- the rows before any other statement
abbrev pub rows_of : List Statement → List (List (List ℕ))
rows_of (Row fields ∷ statements) = fields ∷ rows_of statements
rows_of _ = []

-- the rows list the on-set where their bit is 1; without rows the gate is constant 0
abbrev pub lists_on : List (List (List ℕ)) → Bool
lists_on [] = true
lists_on (row ∷ rows) = bit_of row

-- a gate from its names, of which the last is its output, and its rows
abbrev pub gate_from : List (List ℕ) → List (List (List ℕ)) → Gate
gate_from names rows =
    record {
      inputs = take (length names - 1) names;
      output = slice_index_or names (length names - 1) [];
      rows = map plane_of rows;
      on = lists_on rows;
    }

-- the gates, each with the rows after its names
abbrev pub gates_of : List Statement → List Gate
gates_of [] = []
gates_of (Names names ∷ statements) = gate_from names (rows_of statements) ∷ gates_of statements
gates_of (_ ∷ statements) = gates_of statements

-- what the next row of a gate has to match: its number of inputs, and the output bit of its first row, if it has one
pub record OpenGate : Type 0 where
  pub inputs : ℕ
  pub bit : Option Bool

abbrev pub with_row : List (List ℕ) → Option OpenGate → Option OpenGate
with_row fields None = None
with_row fields (Some gate) = Some (record { inputs = gate.inputs; bit = option_or gate.bit (Some (bit_of fields)) })

-- the last gate, if only rows come after it; the statements begin with the last one
abbrev pub open_gate : List Statement → Option OpenGate
open_gate (Names names ∷ earlier) = Some (record { inputs = length names - 1; bit = None })
open_gate (Row fields ∷ earlier) = with_row fields (open_gate earlier)
open_gate _ = None
