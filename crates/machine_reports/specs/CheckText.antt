-- What `check` prints: the counts of a file, and the name of its reset state.
use Rattle.std.specs.Prelude.{◌≡◌, ℕ, List, Some, length, slice_get}
use Rattle.hs_texts.specs.Reports.{counts_text}
use Rattle.kiss_file.specs.declared.file.KissFile.{KissFile}

-- the counts of the file, and the name of its reset state
abbrev pub IsChecked : KissFile → List ℕ → Type 0
IsChecked F text =
    (reset : List ℕ) × (slice_get F.states F.reset ≡ Some reset) × (text ≡ counts_text (length F.states) F.inputs F.outputs (length F.rows) reset)
