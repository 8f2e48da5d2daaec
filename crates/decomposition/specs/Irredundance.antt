-- No gate reads a state bit that it can do without.
use Rattle.std.specs.Prelude.{◌≡◌, ℕ, Contains, List, Some, slice_get}
use Rattle.dependence.specs.declared.sets.ReadSet.{ReadSet}
use Rattle.dependence.specs.declared.sets.Reads.{Reads}
use Rattle.dependence.specs.SufficientBits.{next_value, output_value}
use Rattle.dependence.specs.ReadRule.{IsIrredundant}
use Rattle.kiss_file.specs.declared.file.KissFile.{KissFile}

-- the bits of each read set permit what the gate gives, and without any one of them they do not
pub record AreIrredundant (W : KissFile) (words : List ℕ) (sets : Reads) : Type 0 where
  pub latches : (i : ℕ) (set : ReadSet) → slice_get sets.latches i ≡ Some set → IsIrredundant W words (Contains set.latches) (next_value W words i)
  pub outputs : (b : ℕ) (set : ReadSet) → slice_get sets.outputs b ≡ Some set → IsIrredundant W words (Contains set.latches) (output_value W b)
