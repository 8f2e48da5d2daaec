-- Gates that are added after others.
use Rattle.std.specs.Prelude.{◌≡◌, ℕ, ◌+◌, Bool, List, Some, length, slice_get}
use Rattle.dependence.specs.declared.sets.ReadSet.{ReadSet}
use Rattle.kiss_file.specs.declared.file.KissFile.{KissFile}
use Rattle.net_core.specs.declared.Gate.{Gate}
use Rattle.net_core.specs.declared.SignalNames.{SignalNames}
use Rattle.realise.specs.CodeNetwork.{IsGateFor, name_at}

-- the gate at that place is that of the read set, the value and the name
abbrev pub IsGateAt : KissFile → List ℕ → SignalNames → List Gate → ℕ → ReadSet → (ℕ → List Bool → Bool) → List ℕ → Type 0
IsGateAt F words names gates at set value name = (gate : Gate) × (slice_get gates at ≡ Some gate) × IsGateFor F words names set value name gate

-- after the old gates comes one gate for each read set, with the value and the name of the same number
pub record AddsGates (F : KissFile) (words : List ℕ) (names : SignalNames) (value : ℕ → ℕ → List Bool → Bool) (outputs : List (List ℕ)) (sets : List ReadSet) (old new : List Gate) : Type 0 where
  pub count : length new ≡ length old + length sets
  pub kept : (k : ℕ) (gate : Gate) → slice_get old k ≡ Some gate → slice_get new k ≡ Some gate
  pub each : (i : ℕ) (set : ReadSet) → slice_get sets i ≡ Some set → IsGateAt F words names new (length old + i) set (value i) (name_at outputs i)
