-- Gates of codes that read as few bits as they can (source: this project).
use Rattle.std.specs.Prelude.{◌≡◌, ℕ, Some, slice_get}
use Rattle.kiss_file.specs.declared.file.KissFile.{KissFile}
use Rattle.state_codes.specs.declared.Codes.{Codes}
use Rattle.dependence.specs.declared.sets.ReadSet.{ReadSet}
use Rattle.dependence.specs.declared.sets.Reads.{Reads}
use Rattle.dependence.specs.Candidates.{IsBitOfCode}
use Rattle.dependence.specs.SufficientBits.{next_value, output_value}
use Rattle.least_codes.specs.LeastReads.{AreLeastReads}

-- each latch and each output reads a least set of the bits of the code
pub record EachReadsLeast (F : KissFile) (codes : Codes) (reads : Reads) : Type 0 where
  pub latches : (i : ℕ) (set : ReadSet) → slice_get reads.latches i ≡ Some set → AreLeastReads F codes.words (IsBitOfCode codes) (next_value F codes.words i) set.latches
  pub outputs : (b : ℕ) (set : ReadSet) → slice_get reads.outputs b ≡ Some set → AreLeastReads F codes.words (IsBitOfCode codes) (output_value F b) set.latches
