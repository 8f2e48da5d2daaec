-- The faults of the statements of a BLIF text (source: the SIS manual, narrowed to this product's profile). Each is a
-- property of a statement and of the list of those before it, which begins with the last one.
use Rattle.std.specs.Prelude.{◌≡◌, ℕ, ◌==◌, Bool, true, false, not, ◌&&◌, ◌||◌, nat_le, ⊤, Option, Some, None, is_none, List, [], ◌∷◌, length}
use Rattle.std.specs.List.{flat_map, list_all, list_any}
use Rattle.std.specs.Str.{bytes_eq}
use Rattle.net_core.specs.Statements.{Statement, Model, Clock, LatchLine, Names, Row, Other, NumberedStatement, OpenGate, LatchParts, is_model, is_clock, latch_parts, latch_of, is_other_kind, clocks_in, is_bit, is_plane_character, bit_of, open_gate}

pub data StatementFault : Type 0 where
  BadByte : StatementFault
  NoModel : StatementFault
  Unsupported : StatementFault
  BadFields : StatementFault
  BadRow : StatementFault
  MixedCover : StatementFault
  LatchKind : StatementFault
  Clocks : StatementFault

-- the first statement is not `.model`
abbrev pub lacks_model : List Statement → Statement → Bool
lacks_model [] statement = not (is_model statement)
lacks_model (_ ∷ _) statement = false

-- a second model, or a word that is not supported
abbrev pub is_unsupported : List Statement → Statement → Bool
is_unsupported earlier (Model names) = list_any is_model earlier
is_unsupported earlier Other = true
is_unsupported earlier _ = false

-- The number of fields is wrong, the start of a latch is no start, or a row does not come after a gate.
abbrev pub has_bad_fields : List Statement → Statement → Bool
has_bad_fields earlier (Model names) = not (nat_le (length names) 1)
has_bad_fields earlier (Clock names) = not (length names == 1)
has_bad_fields earlier (LatchLine operands) = is_none (latch_of (latch_parts operands))
has_bad_fields earlier (Names names) = length names == 0
has_bad_fields earlier (Row fields) = is_none (open_gate earlier)
has_bad_fields earlier _ = false

-- a row of a gate with this number of inputs: a plane with a character for each input, and an output bit; only the bit
-- where there are no inputs
abbrev pub is_row_for : ℕ → List (List ℕ) → Bool
is_row_for inputs (bit ∷ []) = inputs == 0 && is_bit bit
is_row_for inputs (plane ∷ bit ∷ []) = (nat_le 1 inputs && length plane == inputs) && (list_all is_plane_character plane && is_bit bit)
is_row_for inputs _ = false

abbrev pub is_bad_row_of : Option OpenGate → List (List ℕ) → Bool
is_bad_row_of None fields = false
is_bad_row_of (Some gate) fields = not (is_row_for gate.inputs fields)

abbrev pub is_bad_row : List Statement → Statement → Bool
is_bad_row earlier (Row fields) = is_bad_row_of (open_gate earlier) fields
is_bad_row earlier _ = false

abbrev pub is_other_bit : Bool → Bool → Bool
is_other_bit true bit = not bit
is_other_bit false bit = bit

abbrev pub differs_from : Option Bool → Bool → Bool
differs_from None bit = false
differs_from (Some first) bit = is_other_bit first bit

abbrev pub mixes_cover_of : Option OpenGate → Bool → Bool
mixes_cover_of None bit = false
mixes_cover_of (Some gate) bit = differs_from gate.bit bit

-- the output bit of a row differs from that of its gate's first row
abbrev pub mixes_cover : List Statement → Statement → Bool
mixes_cover earlier (Row fields) = mixes_cover_of (open_gate earlier) (bit_of fields)
mixes_cover earlier _ = false

abbrev pub has_other_kind : Option LatchParts → Bool
has_other_kind None = false
has_other_kind (Some parts) = is_other_kind parts.kind

-- a latch of a type that is not supported
abbrev pub is_bad_latch : Statement → Bool
is_bad_latch (LatchLine operands) = has_other_kind (latch_parts operands)
is_bad_latch _ = false

-- some name differs from a known one
abbrev pub names_another : List (List ℕ) → List (List ℕ) → Bool
names_another known names = list_any (λ name. list_any (λ other. not (bytes_eq name other)) known) names

-- the statement brings a second clock's name, or is a second `.clock`
abbrev pub brings_clock : List Statement → Statement → Bool
brings_clock earlier statement =
    names_another (flat_map clocks_in earlier) (clocks_in statement) || (is_clock statement && list_any is_clock earlier)

-- the statement has the fault, given those before it
abbrev pub has_fault : StatementFault → List Statement → NumberedStatement → Bool
has_fault BadByte earlier statement = statement.bad
has_fault NoModel earlier statement = lacks_model earlier statement.says
has_fault Unsupported earlier statement = is_unsupported earlier statement.says
has_fault BadFields earlier statement = has_bad_fields earlier statement.says
has_fault BadRow earlier statement = is_bad_row earlier statement.says
has_fault MixedCover earlier statement = mixes_cover earlier statement.says
has_fault LatchKind earlier statement = is_bad_latch statement.says
has_fault Clocks earlier statement = brings_clock earlier statement.says

abbrev pub IsFaultless : List Statement → NumberedStatement → Type 0
IsFaultless earlier statement = (fault : StatementFault) → has_fault fault earlier statement ≡ false

-- none of the statements has a fault, given those before it
abbrev pub AreFaultless : List Statement → List NumberedStatement → Type 0
AreFaultless earlier [] = ⊤
AreFaultless earlier (statement ∷ statements) = IsFaultless earlier statement × AreFaultless (statement.says ∷ earlier) statements
