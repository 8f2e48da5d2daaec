-- The first fault of a statement of a BLIF text, given the list of those before it, which begins with the last one (source:
-- the SIS manual, narrowed to this product's profile). The numbers here are the first ones above the limits.
use Rattle.std.specs.Prelude.{ℕ, Bool, nat_lt, if◌then◌else◌, Option, Some, None, List, [], ◌∷◌, find, length}
use Rattle.std.specs.Option.{option_map}
use Rattle.net_core.specs.Blif.{names_in}
use Rattle.net_core.specs.Faults.{lacks_model, is_unsupported, has_bad_fields, is_bad_row, mixes_cover, is_bad_latch, brings_clock}
use Rattle.net_core.specs.Limits.{InputCount, OutputCount, LatchCount, GateCount, goes_over}
use Rattle.net_core.specs.Limits as limits
use Rattle.net_core.specs.Statements.{Statement, Model, Inputs, Outputs, Clock, LatchLine, Names, Row, Other, NumberedStatement}
use Rattle.blif_in.specs.declared.fault.BlifKind.{BlifKind}
use Rattle.blif_in.specs.declared.fault.BlifKind.TheVariants.{BadByte, Unsupported, BadFields, BadRow, MixedCover, LatchKind, Clocks, NoModel, OverLimit}
use Rattle.blif_in.specs.declared.fault.NetLimit.TheVariants as over

-- a fault if the test gives true
abbrev pub fault_where : Bool → BlifKind → Option BlifKind
fault_where test kind = if test then Some kind else None

-- the first fault of a list
abbrev pub first_of : List (Option BlifKind) → Option BlifKind
first_of [] = None
first_of (None ∷ faults) = first_of faults
first_of (Some fault ∷ faults) = Some fault

-- the first of these names that is longer than 64 bytes
abbrev pub long_name : List (List ℕ) → Option BlifKind
long_name names = option_map (λ name. OverLimit over.NameBytes (length name)) (find (λ name. nat_lt 64 (length name)) names)

-- the first fault of a statement by its word
abbrev pub form_fault : List Statement → Statement → Option BlifKind
form_fault earlier (Model names) =
    first_of
    (fault_where (is_unsupported earlier (Model names)) Unsupported
    ∷ fault_where (has_bad_fields earlier (Model names)) BadFields
    ∷ [])
form_fault earlier (Inputs names) =
    first_of
    (long_name names
    ∷ fault_where (goes_over InputCount earlier (Inputs names)) (OverLimit over.Inputs 257)
    ∷ [])
form_fault earlier (Outputs names) =
    first_of
    (long_name names
    ∷ fault_where (goes_over OutputCount earlier (Outputs names)) (OverLimit over.Outputs 257)
    ∷ [])
form_fault earlier (Clock names) =
    first_of
    (fault_where (has_bad_fields earlier (Clock names)) BadFields
    ∷ long_name names
    ∷ fault_where (brings_clock earlier (Clock names)) Clocks
    ∷ [])
form_fault earlier (LatchLine operands) =
    first_of
    (fault_where (has_bad_fields earlier (LatchLine operands)) BadFields
    ∷ fault_where (is_bad_latch (LatchLine operands)) LatchKind
    ∷ long_name (names_in (LatchLine operands))
    ∷ fault_where (brings_clock earlier (LatchLine operands)) Clocks
    ∷ fault_where (goes_over LatchCount earlier (LatchLine operands)) (OverLimit over.Latches 257)
    ∷ [])
form_fault earlier (Names names) =
    first_of
    (fault_where (has_bad_fields earlier (Names names)) BadFields
    ∷ long_name names
    ∷ fault_where (goes_over limits.GateInputs earlier (Names names)) (OverLimit over.GateInputs 257)
    ∷ fault_where (goes_over GateCount earlier (Names names)) (OverLimit over.Gates 65537)
    ∷ [])
form_fault earlier (Row fields) =
    first_of
    (fault_where (has_bad_fields earlier (Row fields)) BadFields
    ∷ fault_where (is_bad_row earlier (Row fields)) BadRow
    ∷ fault_where (mixes_cover earlier (Row fields)) MixedCover
    ∷ [])
form_fault earlier Other = Some Unsupported

-- the first fault of a statement
abbrev pub fault_in : List Statement → NumberedStatement → Option BlifKind
fault_in earlier statement =
    first_of
    (fault_where statement.bad BadByte
    ∷ fault_where (lacks_model earlier statement.says) NoModel
    ∷ form_fault earlier statement.says
    ∷ [])
