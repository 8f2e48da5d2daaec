-- Parallel splits and their codes, and the summary of such a split.
use Rattle.std.specs.Prelude.{◌≡◌, ℕ, List, [], length}
use Rattle.hs_texts.specs.declared.reports.TrialFigures.{TrialFigures}
use Rattle.hs_texts.specs.Reports.{trial_text}
use Rattle.kiss_file.specs.declared.file.KissFile.{KissFile}
use Rattle.split_texts.specs.Splits.{IsPlanned}
use Rattle.split_texts.specs.SplitText.{AreCodes}
use Rattle.state_codes.specs.declared.split.Kind.TheVariants.{Parallel}
use Rattle.state_codes.specs.declared.split.Split.{Split}
use Rattle.generated_texts.specs.declared.figures.Numbers.{Numbers}
use Rattle.generated_texts.specs.declared.trials.CodedSplit.{CodedSplit}
use Rattle.generated_texts.specs.Figures.{AreFigures}

-- a parallel split of a machine with its codes
pub record IsCodedSplit (F : KissFile) (coded : CodedSplit) : Type 0 where
  pub planned : IsPlanned Parallel [] F coded.split
  pub codes : AreCodes (length F.states) coded.split.parts coded.codes

-- the text is that of the figures of a machine and a split of it
abbrev pub IsSummary : Numbers → KissFile → Split → List ℕ → Type 0
IsSummary numbers F split text =
    (figures : TrialFigures) × AreFigures numbers.seed numbers.a numbers.b numbers.k F split.parts figures × (text ≡ trial_text figures)
