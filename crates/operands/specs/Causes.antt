-- The refusals that a job calls for by what it loads, in the order of judgement: one row for each answer. The rows
-- of a command's own answers are in the crate of its family.
use Rattle.std.specs.Prelude.{◌≡◌, ℕ, List, [], ◌∷◌, Some, map, slice_get}
use Rattle.answers.specs.declared.refusals.Refusal.TheVariants.{Conflict, NoMachine, NoNetwork, Unspecified}
use Rattle.answers.specs.Cause.{Cause, FirstOf}
use Rattle.blif_in.specs.declared.fault.BlifFault.{BlifFault}
use Rattle.blif_in.specs.Text.{IsBlifFault}
use Rattle.cubes.specs.Symbol.{digit, symbol_of}
use Rattle.operands.specs.OperandText.{Lengthy}
use Rattle.kiss2.specs.declared.fault.KissFault.{KissFault}
use Rattle.kiss_file.specs.declared.fill.Fill.{Fill}
use Rattle.kiss_file.specs.declared.fill.Fill.TheVariants.{Refuse}
use Rattle.kiss_file.specs.declared.file.KissFile.{KissFile}
use Rattle.kiss2.specs.Kiss.{IsKissFault, Kiss}
use Rattle.kiss_file.specs.Machine.{Accepted, Conflicting}
use Rattle.machine_table.specs.declared.open_part.Missing.{Missing}
use Rattle.machine_table.specs.Conflict.{IsFirstConflict}
use Rattle.machine_table.specs.OpenEntries.{IsFirstOpen}
use Rattle.net_core.specs.declared.Network.{Network}
use Rattle.net_core.specs.Blif.{Blif}

-- a cause that calls for no refusal
abbrev pub Never : Cause
Never refusal = ⊥

-- ---- FILE
-- the bytes are not a machine: their first fault
abbrev pub SaysNoMachine : List ℕ → Cause
SaysNoMachine bytes refusal = (fault : KissFault) × (refusal ≡ NoMachine fault) × IsKissFault bytes fault.line fault.kind

-- two rows of the file conflict: the first two
abbrev pub Conflicts : KissFile → Cause
Conflicts F refusal = (row other : ℕ) × (refusal ≡ Conflict row other) × IsFirstConflict F row other

-- the file leaves something open, and the fill refuses that: the first open entry, by the name of its state and the
-- digits of its symbol
pub record LeavesOpenAt (fill : Fill) (F : KissFile) (s x : ℕ) (part : Missing) (name : List ℕ) : Type 0 where
  pub no_conflict : Conflicting F → ⊥
  pub refused : fill ≡ Refuse
  pub entry : IsFirstOpen F s x part
  pub named : slice_get F.states s ≡ Some name

abbrev pub LeavesOpen : Fill → KissFile → Cause
LeavesOpen fill F refusal =
    (s x : ℕ) × (part : Missing) × (name : List ℕ) × (refusal ≡ Unspecified name (map digit (symbol_of F.inputs x)) part) × LeavesOpenAt fill F s x part name

-- the bytes denote a file that calls for the refusal
abbrev pub OfFile : List ℕ → (KissFile → Cause) → Cause
OfFile bytes cause refusal = (F : KissFile) × Kiss bytes F × cause F refusal

-- the bytes denote a file that is accepted with the fill and calls for the refusal
abbrev pub OfMachine : Fill → List ℕ → (KissFile → Cause) → Cause
OfMachine fill bytes cause refusal = (F : KissFile) × Kiss bytes F × Accepted F fill × cause F refusal

-- no machine can be made of the bytes of FILE
abbrev pub NoMachineOf : List ℕ → Fill → List ℕ → Cause
NoMachineOf name fill bytes =
    FirstOf (Lengthy name bytes ∷ SaysNoMachine bytes ∷ OfFile bytes Conflicts ∷ OfFile bytes (LeavesOpen fill) ∷ [])

-- ---- NET
-- the bytes are not a network: their first fault
abbrev pub SaysNoNetwork : List ℕ → Cause
SaysNoNetwork bytes refusal = (fault : BlifFault) × (refusal ≡ NoNetwork fault) × IsBlifFault bytes fault

-- the bytes denote a network that calls for the refusal
abbrev pub OfNetwork : List ℕ → (Network → Cause) → Cause
OfNetwork bytes cause refusal = (N : Network) × Blif bytes N × cause N refusal

-- no network can be made of the bytes of NET
abbrev pub NoNetworkOf : List ℕ → List ℕ → Cause
NoNetworkOf name bytes = FirstOf (Lengthy name bytes ∷ SaysNoNetwork bytes ∷ [])
