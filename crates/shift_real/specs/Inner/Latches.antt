-- The gates of the latches of the register and those of the outputs, one by one.
use Rattle.std.specs.Prelude.{◌≡◌, ℕ, ◌+◌, ◌<◌, ◌++◌, List, Some, length, slice_get}
use Rattle.dependence.specs.declared.sets.ReadSet.{ReadSet}
use Rattle.kiss_file.specs.declared.file.KissFile.{KissFile}
use Rattle.net_core.specs.declared.Gate.{Gate}
use Rattle.net_core.specs.declared.SignalNames.{SignalNames}
use Rattle.gate_rows.specs.Names.{name_at}
use Rattle.shift_real.specs.Gates.{IsOutputGate, taking}

-- the name of what latch i takes: the inputs come first, and then the latches in order
abbrev pub taken_by : SignalNames → ℕ → List ℕ
taken_by names i = name_at (names.inputs ++ names.latch_outputs) i

-- the gate of latch i
abbrev pub latch_gate : SignalNames → ℕ → Gate
latch_gate names i = taking (taken_by names i) (name_at names.latch_inputs i)

-- gate `at` is that of output b
abbrev pub IsOutputGateAt : KissFile → ℕ → SignalNames → List Gate → ℕ → ℕ → Type 0
IsOutputGateAt F k names gates at b = (set : ReadSet) × (gate : Gate) × (slice_get gates at ≡ Some gate) × IsOutputGate F k names b set gate

-- after the old gates come those of the given number of outputs
pub record AddsOutputGates (F : KissFile) (k : ℕ) (names : SignalNames) (outputs : ℕ) (old new : List Gate) : Type 0 where
  pub count : length new ≡ length old + outputs
  pub kept : (at : ℕ) (gate : Gate) → slice_get old at ≡ Some gate → slice_get new at ≡ Some gate
  pub each : (b : ℕ) → b < outputs → IsOutputGateAt F k names new (length old + b) b
