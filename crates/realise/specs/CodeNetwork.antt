-- The network of codes: the names of its signals, and what each gate lists.
use Rattle.std.specs.Prelude.{◌≡◌, ℕ, ◌+◌, ◌<◌, ◌++◌, Bool, true, false, All, Contains, List, Some, length, map, slice_get}
use Rattle.std.specs.Cmp.Lexicographic.{slice_cmp}
use Rattle.std.specs.List.Sorted.{IsSorted, IsStrictlyIncreasing}
use Rattle.std.specs.Ordering.{nat_cmp}
use Rattle.dependence.specs.declared.sets.ReadSet.{ReadSet}
use Rattle.dependence.specs.declared.sets.Reads.{Reads}
use Rattle.dependence.specs.SufficientBits.{PermitsValue, next_value, output_value}
use Rattle.dependence.specs.Inputs.{Matters}
use Rattle.gate_rows.specs.GateCovers.{IsGoodCover}
pub use Rattle.gate_rows.specs.Names.{name_at}
use Rattle.kiss_file.specs.declared.file.KissFile.{KissFile}
use Rattle.net_core.specs.declared.Gate.{Gate}
use Rattle.net_core.specs.declared.Network.{Network}
use Rattle.net_core.specs.declared.SignalNames.{SignalNames}
use Rattle.net_core.specs.Step.{AreStarts}
use Rattle.realise.specs.Codes.{code_of}
use Rattle.realise.specs.Rows.{GivesAt}

-- what a gate reads is enough for what it gives: its bits permit the value, and every input that matters is read
pub record IsEnough (F : KissFile) (words : List ℕ) (value : ℕ → List Bool → Bool) (set : ReadSet) : Type 0 where
  pub permits : PermitsValue F words (Contains set.latches) value
  pub matter : (a : ℕ) → a < F.inputs → Matters F value a → Contains set.inputs a

-- the set has inputs of the machine and bits of the code, both ascending
pub record IsWithin (inputs bits : ℕ) (set : ReadSet) : Type 0 where
  pub inputs_within : All (λ a. a < inputs) set.inputs
  pub latches_within : All (λ c. c < bits) set.latches
  pub inputs_ascend : IsStrictlyIncreasing set.inputs
  pub latches_ascend : IsStrictlyIncreasing set.latches

-- read sets that are enough for each latch and each output
pub record AreEnough (F : KissFile) (bits : ℕ) (words : List ℕ) (reads : Reads) : Type 0 where
  pub latch_count : length reads.latches ≡ bits
  pub output_count : length reads.outputs ≡ F.outputs
  pub latches_within : All (IsWithin F.inputs bits) reads.latches
  pub outputs_within : All (IsWithin F.inputs bits) reads.outputs
  pub latches : (i : ℕ) (set : ReadSet) → slice_get reads.latches i ≡ Some set → IsEnough F words (next_value F words i) set
  pub outputs : (b : ℕ) (set : ReadSet) → slice_get reads.outputs b ≡ Some set → IsEnough F words (output_value F b) set

-- there is a name for each input and each output, and two for each bit
pub record AreCounted (F : KissFile) (bits : ℕ) (names : SignalNames) : Type 0 where
  pub inputs : length names.inputs ≡ F.inputs
  pub outputs : length names.outputs ≡ F.outputs
  pub latch_inputs : length names.latch_inputs ≡ bits
  pub latch_outputs : length names.latch_outputs ≡ bits

-- the gate that gives a value under a name: it lists what its set reads, and its rows are a good cover of its on-set and its
-- off-set, in ascending order of their bytes
pub record IsGateFor (F : KissFile) (words : List ℕ) (names : SignalNames) (set : ReadSet) (value : ℕ → List Bool → Bool) (name : List ℕ) (gate : Gate) : Type 0 where
  pub inputs : gate.inputs ≡ map (name_at names.inputs) set.inputs ++ map (name_at names.latch_outputs) set.latches
  pub output : gate.output ≡ name
  pub on : gate.on ≡ true
  pub cover : IsGoodCover (GivesAt F words set value true) (GivesAt F words set value false) gate.rows
  pub widths : All (λ row. length row ≡ length gate.inputs) gate.rows
  pub in_order : IsSorted (slice_cmp nat_cmp) gate.rows

-- the gate at that place is that of the read set, the value and the name
abbrev pub HasGate : KissFile → List ℕ → SignalNames → Network → (at : ℕ) → ReadSet → (ℕ → List Bool → Bool) → List ℕ → Type 0
HasGate F words names N at set value name = (gate : Gate) × (slice_get N.gates at ≡ Some gate) × IsGateFor F words names set value name gate

-- The network has the given names, starts at the code of the reset state, and has one gate for each latch input and then
-- one for each output, and no other.
pub record IsRealised (F : KissFile) (bits : ℕ) (words : List ℕ) (reads : Reads) (names : SignalNames) (N : Network) : Type 0 where
  pub inputs : N.inputs ≡ names.inputs
  pub outputs : N.outputs ≡ names.outputs
  pub latch_inputs : map (λ latch. latch.input) N.latches ≡ names.latch_inputs
  pub latch_outputs : map (λ latch. latch.output) N.latches ≡ names.latch_outputs
  pub starts : AreStarts N.latches (code_of bits words F.reset)
  pub gate_count : length N.gates ≡ bits + F.outputs
  pub latch_gates : (i : ℕ) (set : ReadSet) → slice_get reads.latches i ≡ Some set → HasGate F words names N i set (next_value F words i) (name_at names.latch_inputs i)
  pub output_gates : (b : ℕ) (set : ReadSet) → slice_get reads.outputs b ≡ Some set → HasGate F words names N (bits + b) set (output_value F b) (name_at names.outputs b)
