-- What the gates of a code read.
use Rattle.std.specs.Prelude.{◌≡◌, ◌↔◌, ℕ, ◌<◌, Bool, Contains, List, Some, length, slice_get}
use Rattle.std.specs.List.Sorted.{IsStrictlyIncreasing}
use Rattle.kiss_file.specs.declared.file.KissFile.{KissFile}
use Rattle.state_codes.specs.declared.split.Part.{Part}
use Rattle.state_codes.specs.declared.Codes.{Codes}
use Rattle.dependence.specs.declared.sets.ReadSet.{ReadSet}
use Rattle.dependence.specs.declared.sets.Reads.{Reads}
use Rattle.dependence.specs.Candidates.{IsBitOfCode, IsCandidate}
use Rattle.dependence.specs.Inputs.{Matters}
use Rattle.dependence.specs.SufficientBits.{next_value, output_value}
use Rattle.dependence.specs.ReadRule.{IsReadRule}

-- the bits that are read by the rule, and the inputs that matter, both ascending
pub record IsReadSet (F : KissFile) (words : List ℕ) (Candidate : ℕ → Type 0) (value : ℕ → List Bool → Bool) (set : ReadSet) : Type 0 where
  pub latches : IsReadRule F words Candidate (Contains set.latches) value
  pub latches_ascend : IsStrictlyIncreasing set.latches
  pub inputs : (a : ℕ) → Contains set.inputs a ↔ (a < F.inputs × Matters F value a)
  pub inputs_ascend : IsStrictlyIncreasing set.inputs

-- a read set for each latch and for each output
pub record AreReads (F : KissFile) (parts : List Part) (codes : Codes) (reads : Reads) : Type 0 where
  pub latch_count : length reads.latches ≡ codes.bits
  pub latches : (i : ℕ) (set : ReadSet) → slice_get reads.latches i ≡ Some set → IsReadSet F codes.words (IsCandidate parts codes i) (next_value F codes.words i) set
  pub output_count : length reads.outputs ≡ F.outputs
  pub outputs : (b : ℕ) (set : ReadSet) → slice_get reads.outputs b ≡ Some set → IsReadSet F codes.words (IsBitOfCode codes) (output_value F b) set
