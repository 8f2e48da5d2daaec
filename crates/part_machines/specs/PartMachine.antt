-- The machine of a part of a split, and the machine of the outputs (source: Hartmanis and Stearns, the component machines of
-- a decomposition).
use Rattle.std.specs.Prelude.{◌≡◌, ◌==◌, ⊤, ℕ, ◌+◌, ◌<◌, Bool, List, [], ◌∷◌, ◌++◌, Some, length, map, slice_index}
use Rattle.std.specs.List.{position_or_len, range_with_len}
use Rattle.cubes.specs.Symbol.{bit}
use Rattle.dependence.specs.declared.sets.ReadSet.{ReadSet}
use Rattle.dependence.specs.declared.sets.Reads.{Reads}
use Rattle.kiss_file.specs.declared.file.KissFile.{KissFile}
use Rattle.kiss_file.specs.Machine.{Conflicting, Specified, next, out}
use Rattle.kiss_file.specs.Names.{name_of}
use Rattle.net_core.specs.declared.SignalNames.{SignalNames}
use Rattle.partition.specs.Partition.{blocks_of}
use Rattle.realise.specs.CodeNetwork.{name_at}
use Rattle.realise.specs.Rows.{read_values}
use Rattle.state_codes.specs.declared.split.Part.{Part}
use Rattle.state_codes.specs.declared.Codes.{Codes}
use Rattle.state_codes.specs.declared.which.Which.{Which}
use Rattle.state_codes.specs.declared.which.Which.TheVariants.{Part as Numbered, Outputs}
use Rattle.part_machines.specs.PartRows.{ArePartRows, output_count}
use Rattle.part_machines.specs.PartSet.{IsPartSet}
use Rattle.part_machines.specs.Which.{outputs_name, own_bits, partition_of}

-- ---- names
-- the names of the inputs: those of the inputs of the file, then those of the latch outputs
abbrev pub input_names : SignalNames → ReadSet → List (List ℕ)
input_names names set = map (name_at names.inputs) set.inputs ++ map (name_at names.latch_outputs) set.latches

-- the names of the outputs: those of the latch outputs of the part, or of the outputs of the file
abbrev pub output_names : SignalNames → Codes → Which → List (List ℕ)
output_names names code (Numbered j) = map (name_at names.latch_outputs) (own_bits code (Numbered j))
output_names names code Outputs = names.outputs

-- the least state with a label
abbrev pub least_with : List ℕ → ℕ → ℕ
least_with p block = position_or_len (λ label. label == block) p

-- the names of the states: each block has that of its least state
abbrev pub state_names : KissFile → List ℕ → Which → List (List ℕ)
state_names W p (Numbered j) = map (λ block. name_of W.states (least_with p block)) (range_with_len 0 (blocks_of p))
state_names W p Outputs = outputs_name ∷ []

-- the machine has the inputs and outputs of the part, by their names in the network
pub record HasSignals (W : KissFile) (code : Codes) (set : ReadSet) (names : SignalNames) (which : Which) (P : KissFile) : Type 0 where
  pub inputs : P.inputs ≡ length set.inputs + length set.latches
  pub input_names : P.input_names ≡ Some (input_names names set)
  pub outputs : P.outputs ≡ output_count W code which
  pub output_names : P.output_names ≡ Some (output_names names code which)

-- its states are the blocks in the order of their labels, and it starts at the block of the reset state
pub record HasBlocks (W : KissFile) (p : List ℕ) (which : Which) (P : KissFile) : Type 0 where
  pub states : P.states ≡ state_names W p which
  pub reset : P.reset ≡ slice_index p W.reset

-- ---- steps
-- what the machine gives where W is in state s at symbol x: the part's bits in the code of s, or W's outputs
abbrev pub outputs_at : KissFile → Codes → Which → ℕ → List Bool → List Bool
outputs_at W code (Numbered j) s x = map (bit (slice_index code.words s)) (own_bits code (Numbered j))
outputs_at W code Outputs s x = out W s x

-- for each state and symbol of W the machine goes from block to block, at the symbol that they spell on what is read
pub record FollowsSteps (W : KissFile) (code : Codes) (p : List ℕ) (set : ReadSet) (which : Which) (P : KissFile) : Type 0 where
  pub next_block : (s : ℕ) (x : List Bool) → s < length W.states → length x ≡ W.inputs
      → next P (slice_index p s) (read_values code.words set s x) ≡ slice_index p (next W s x)
  pub gives : (s : ℕ) (x : List Bool) → s < length W.states → length x ≡ W.inputs
      → out P (slice_index p s) (read_values code.words set s x) ≡ outputs_at W code which s x

-- the machine of a part gives at each of its states the same at every symbol
abbrev pub IsOfMoore : Which → KissFile → Type 0
IsOfMoore (Numbered j) P =
    (t : ℕ) (x y : List Bool) → t < length P.states → length x ≡ P.inputs → length y ≡ P.inputs → out P t x ≡ out P t y
IsOfMoore Outputs P = ⊤

-- P is the machine of the part of a split of W with these codes, read sets and names of signals
pub record IsPartOf (W : KissFile) (parts : List Part) (code : Codes) (sets : Reads) (names : SignalNames) (which : Which) (P : KissFile) : Type 0 where
  pub partition : List ℕ
  pub blocks_are : partition_of W parts which ≡ Some partition
  pub set : ReadSet
  pub reads : IsPartSet code sets which set
  pub signals : HasSignals W code set names which P
  pub blocks : HasBlocks W partition which P
  pub steps : FollowsSteps W code partition set which P
  pub moore : IsOfMoore which P
  pub specified : Specified P
  pub no_conflict : Conflicting P → ⊥
  pub rows : ArePartRows W code partition set which P.rows
