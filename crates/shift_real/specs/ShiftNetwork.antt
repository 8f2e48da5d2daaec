-- The network of a shift register.
use Rattle.std.specs.Prelude.{◌≡◌, ℕ, ◌+◌, ◌*◌, ◌<◌, ◌≤◌, ◌++◌, Bool, List, Some, count_by, length, map, slice_get}
use Rattle.std.specs.Str.{bytes_eq}
use Rattle.dependence.specs.declared.sets.ReadSet.{ReadSet}
use Rattle.gate_rows.specs.Names.{HasNames, name_at}
use Rattle.kiss_file.specs.declared.file.KissFile.{KissFile}
use Rattle.kiss_file.specs.Machine.{out}
use Rattle.net_core.specs.declared.Gate.{Gate}
use Rattle.net_core.specs.declared.Network.{Network}
use Rattle.net_core.specs.declared.SignalNames.{SignalNames}
use Rattle.net_core.specs.Step.{AreStarts, Step}
use Rattle.shift_real.specs.Gates.{IsOutputGate, taking}
use Rattle.shift_real.specs.Register.{IsStartContent, latch_values, shifted, state_after}
use Rattle.shift_real.specs.Words.{IsWord}

-- there are names for the inputs, for the outputs and, twice, for the bits of a register of k symbols, and no
-- two names are the same
pub record AreNamesFor (F : KissFile) (k : ℕ) (names : SignalNames) : Type 0 where
  pub inputs : length names.inputs ≡ F.inputs
  pub outputs : length names.outputs ≡ F.outputs
  pub latch_inputs : length names.latch_inputs ≡ k * F.inputs
  pub latch_outputs : length names.latch_outputs ≡ k * F.inputs
  pub distinct : (name : List ℕ) → count_by (bytes_eq name) (names.inputs ++ names.outputs ++ names.latch_inputs ++ names.latch_outputs) ≤ 1

-- the latches start at the values of the start content
abbrev pub StartsAtContent : KissFile → ℕ → Network → Type 0
StartsAtContent F k N = (word : List (List Bool)) × IsStartContent F k word × AreStarts N.latches (latch_values word)

-- the gate of the latch with this number gives it the signal
abbrev pub TakesAt : SignalNames → Network → ℕ → List ℕ → Type 0
TakesAt names N latch signal = slice_get N.gates latch ≡ Some (taking signal (name_at names.latch_inputs latch))

-- A latch of the newest symbol takes an input. Each other latch takes the latch of the same bit of the next
-- newer symbol.
pub record Shifts (F : KissFile) (k : ℕ) (names : SignalNames) (N : Network) : Type 0 where
  pub newest : (i : ℕ) → i < F.inputs → 0 < k → TakesAt names N i (name_at names.inputs i)
  pub older : (j i : ℕ) → i < F.inputs → j + 1 < k → TakesAt names N ((j + 1) * F.inputs + i) (name_at names.latch_outputs (j * F.inputs + i))

-- the gates of the outputs come after those of the latches, and this is the gate of output b
abbrev pub HasOutputGate : KissFile → ℕ → SignalNames → Network → ℕ → Type 0
HasOutputGate F k names N b = (set : ReadSet) × (gate : Gate) × (slice_get N.gates (k * F.inputs + b) ≡ Some gate) × IsOutputGate F k names b set gate

-- the network of the register: its gates are those of the latches and then those of the outputs, and no others
pub record IsRegister (F : KissFile) (k : ℕ) (names : SignalNames) (N : Network) : Type 0 where
  pub named : HasNames N names
  pub starts : StartsAtContent F k N
  pub gate_count : length N.gates ≡ k * F.inputs + F.outputs
  pub shifts : Shifts F k names N
  pub outputs : (b : ℕ) → b < F.outputs → HasOutputGate F k names N b

-- at each content and symbol one step gives the outputs of the machine and the next content
abbrev pub StepsAlong : KissFile → ℕ → Network → Type 0
StepsAlong F k N =
    (word : List (List Bool)) (x : List Bool) → IsWord F k word → length x ≡ F.inputs → Step N (latch_values word) x (out F (state_after F word) x) (latch_values (shifted word x))
