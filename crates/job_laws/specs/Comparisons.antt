-- Jobs of `compare`: two texts of one job differ only in the numbers of rows and of literals.
use Rattle.std.specs.Prelude.{◌≡◌, ◌⊎◌, ◌++◌, ◌∷◌, [], ℕ, List, Option, Ok}
use Rattle.std.specs.List.{AllZip, flat_map}
use Rattle.comparisons.specs.CountLaws.{HaveSameReads}
use Rattle.hs_io.specs.Spelling.{ended, line_text}
use Rattle.hs_texts.specs.Comparisons.{counted_fields}
use Rattle.hs_texts.specs.declared.comparisons.NetworkCounts.{NetworkCounts}
use Rattle.hsdec_core.specs.Promise.{IsAsked}
use Rattle.job_laws.specs.Jobs.{AreKnown}
use Rattle.job_words.specs.declared.command.Command.TheVariants.{Compare}
use Rattle.job_words.specs.declared.jobs.Job.{Job}

-- the lines of two networks that have the same latches and the same reads of latches
pub record AreCountLines (line other : List ℕ) : Type 0 where
  pub word : List ℕ
  pub measure : List ℕ
  pub number : ℕ
  pub counts : NetworkCounts
  pub more : NetworkCounts
  pub same : HaveSameReads counts more
  pub is : line ≡ line_text (counted_fields word measure number counts)
  pub other_is : other ≡ line_text (counted_fields word measure number more)

-- the lines are the same, or differ only in the numbers of rows and of literals
abbrev pub DifferInRowCounts : List ℕ → List ℕ → Type 0
DifferInRowCounts line other = (line ≡ other) ⊎ AreCountLines line other

-- two texts of such lines
pub record HaveLinesAlike (text other : List ℕ) : Type 0 where
  pub lines : List (List ℕ)
  pub other_lines : List (List ℕ)
  pub is : text ≡ flat_map ended lines
  pub other_is : other ≡ flat_map ended other_lines
  pub alike : AllZip DifferInRowCounts lines other_lines

-- what the shelf holds determines the text of a comparison but for these numbers
abbrev pub ComparisonsDifferInRowCounts : Type 0
ComparisonsDifferInRowCounts =
    (job : Job) (holds : List ℕ → Option (List ℕ)) (text other : List ℕ)
    → job.command ≡ Compare → AreKnown job holds → IsAsked job holds text → IsAsked job holds other → HaveLinesAlike text other
