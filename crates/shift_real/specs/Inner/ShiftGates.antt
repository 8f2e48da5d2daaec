-- The gates and the network of a shift register, by their places.
use Rattle.std.specs.Prelude.{◌≡◌, ℕ, ◌+◌, ◌*◌, ◌<◌, List, Some, length, slice_get}
use Rattle.kiss_file.specs.declared.file.KissFile.{KissFile}
use Rattle.gate_rows.specs.Latches.{AreLatches}
use Rattle.net_core.specs.declared.Gate.{Gate}
use Rattle.net_core.specs.declared.Network.{Network}
use Rattle.net_core.specs.declared.SignalNames.{SignalNames}
use Rattle.shift_real.specs.Inner.Latches.{IsOutputGateAt, latch_gate}

-- the gates of the latches, then those of the outputs, and no others
pub record AreShiftGates (F : KissFile) (k : ℕ) (names : SignalNames) (gates : List Gate) : Type 0 where
  pub count : length gates ≡ k * F.inputs + F.outputs
  pub latches : (i : ℕ) → i < k * F.inputs → slice_get gates i ≡ Some (latch_gate names i)
  pub outputs : (b : ℕ) → b < F.outputs → IsOutputGateAt F k names gates (k * F.inputs + b) b

-- the network has the names, its latches start at the word, and its gates are those of a register
pub record IsShiftNetwork (F : KissFile) (k word : ℕ) (names : SignalNames) (N : Network) : Type 0 where
  pub inputs : N.inputs ≡ names.inputs
  pub outputs : N.outputs ≡ names.outputs
  pub latches : AreLatches names (k * F.inputs) word N.latches
  pub gates : AreShiftGates F k names N.gates
