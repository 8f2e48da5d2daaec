-- The gates of the register of a definite machine.
use Rattle.std.specs.Prelude.{◌≡◌, ◌≢◌, ℕ, ◌*◌, ◌<◌, ◌++◌, ◌↔◌, Bool, true, false, All, Contains, List, [], ◌∷◌, length, map, slice_index_or}
use Rattle.std.specs.Cmp.Lexicographic.{slice_cmp}
use Rattle.std.specs.List.Sorted.{IsSorted, IsStrictlyIncreasing}
use Rattle.std.specs.Ordering.{nat_cmp}
use Rattle.dependence.specs.declared.sets.ReadSet.{ReadSet}
use Rattle.dependence.specs.Inputs.{DifferAlone}
use Rattle.gate_rows.specs.Columns.{input_of}
use Rattle.gate_rows.specs.GateCovers.{IsGoodCover}
use Rattle.gate_rows.specs.Names.{name_at}
use Rattle.kiss_file.specs.declared.file.KissFile.{KissFile}
use Rattle.kiss_file.specs.Machine.{output_bit}
use Rattle.net_core.specs.declared.Gate.{Gate}
use Rattle.net_core.specs.declared.SignalNames.{SignalNames}
use Rattle.shift_real.specs.Register.{latch_values, state_after}
use Rattle.shift_real.specs.Words.{IsWord}

-- output b after a content, at a symbol
abbrev pub output_after : KissFile → ℕ → List (List Bool) → List Bool → Bool
output_after F b word x = output_bit F (state_after F word) x b

-- two contents that differ at the latch alone give different values of the output at some symbol
pub record LatchMatters (F : KissFile) (k b latch : ℕ) : Type 0 where
  pub word : List (List Bool)
  pub other : List (List Bool)
  pub x : List Bool
  pub content : IsWord F k word
  pub other_content : IsWord F k other
  pub symbol : length x ≡ F.inputs
  pub differ : DifferAlone latch (latch_values word) (latch_values other)
  pub values : output_after F b word x ≢ output_after F b other x

-- two symbols that differ at the input alone give different values of the output after some content
pub record InputMatters (F : KissFile) (k b input : ℕ) : Type 0 where
  pub word : List (List Bool)
  pub x : List Bool
  pub y : List Bool
  pub content : IsWord F k word
  pub symbol : length x ≡ F.inputs
  pub differ : DifferAlone input x y
  pub values : output_after F b word x ≢ output_after F b word y

-- what the gate of an output reads: the latches and the inputs that matter, and no others, both ascending
pub record IsReadAfter (F : KissFile) (k b : ℕ) (set : ReadSet) : Type 0 where
  pub latches : (latch : ℕ) → Contains set.latches latch ↔ LatchMatters F k b latch
  pub latches_within : All (λ latch. latch < k * F.inputs) set.latches
  pub latches_ascend : IsStrictlyIncreasing set.latches
  pub inputs : (input : ℕ) → Contains set.inputs input ↔ InputMatters F k b input
  pub inputs_within : All (λ input. input < F.inputs) set.inputs
  pub inputs_ascend : IsStrictlyIncreasing set.inputs

-- the values that are read: those of the read inputs, in order, and then those of the read latches
abbrev pub values_read : ReadSet → List (List Bool) → List Bool → List Bool
values_read set word x = map (input_of x) set.inputs ++ map (λ latch. slice_index_or (latch_values word) latch false) set.latches

-- some content and some symbol, at which these values are read, give the output this bit
pub record GivesAfter (F : KissFile) (k b : ℕ) (set : ReadSet) (given : Bool) (read : List Bool) : Type 0 where
  pub word : List (List Bool)
  pub x : List Bool
  pub content : IsWord F k word
  pub symbol : length x ≡ F.inputs
  pub read_there : read ≡ values_read set word x
  pub gives : output_after F b word x ≡ given

-- The gate of an output lists what it reads, the inputs first. Its rows are a good cover of where it gives 1
-- and where it gives 0, in ascending order of their bytes.
pub record IsOutputGate (F : KissFile) (k : ℕ) (names : SignalNames) (b : ℕ) (set : ReadSet) (gate : Gate) : Type 0 where
  pub reads : IsReadAfter F k b set
  pub inputs : gate.inputs ≡ map (name_at names.inputs) set.inputs ++ map (name_at names.latch_outputs) set.latches
  pub output : gate.output ≡ name_at names.outputs b
  pub on : gate.on ≡ true
  pub cover : IsGoodCover (GivesAfter F k b set true) (GivesAfter F k b set false) gate.rows
  pub widths : All (λ row. length row ≡ length gate.inputs) gate.rows
  pub in_order : IsSorted (slice_cmp nat_cmp) gate.rows

-- the gate of a latch gives one signal unchanged: its one row is `1`
abbrev pub taking : List ℕ → List ℕ → Gate
taking signal name = record { inputs = signal ∷ []; output = name; rows = (49 ∷ []) ∷ []; on = true }
