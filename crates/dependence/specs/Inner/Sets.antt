-- The read sets of the first gates.
use Rattle.std.specs.Prelude.{◌≡◌, ℕ, List, Some, length, slice_get}
use Rattle.kiss_file.specs.declared.file.KissFile.{KissFile}
use Rattle.state_codes.specs.declared.split.Part.{Part}
use Rattle.state_codes.specs.declared.Codes.{Codes}
use Rattle.dependence.specs.declared.sets.ReadSet.{ReadSet}
use Rattle.dependence.specs.Candidates.{IsBitOfCode, IsCandidate}
use Rattle.dependence.specs.SufficientBits.{next_value, output_value}
use Rattle.dependence.specs.Reads.{IsReadSet}

-- the read sets of the latches below count
pub record AreLatchSets (F : KissFile) (parts : List Part) (codes : Codes) (sets : List ReadSet) (count : ℕ) : Type 0 where
  pub size : length sets ≡ count
  pub each : (i : ℕ) (set : ReadSet) → slice_get sets i ≡ Some set → IsReadSet F codes.words (IsCandidate parts codes i) (next_value F codes.words i) set

-- the read sets of the outputs below count
pub record AreOutputSets (F : KissFile) (codes : Codes) (sets : List ReadSet) (count : ℕ) : Type 0 where
  pub size : length sets ≡ count
  pub each : (b : ℕ) (set : ReadSet) → slice_get sets b ≡ Some set → IsReadSet F codes.words (IsBitOfCode codes) (output_value F b) set
