-- Laws: what the file determines of a comparison.
use Rattle.std.specs.Prelude.{◌≡◌, ◌≢◌, ℕ, Bool, IsSome, List, []}
use Rattle.answers.specs.declared.refusals.Refusal.{Refusal}
use Rattle.blif_out.specs.Head.{kind_word}
use Rattle.comparisons.specs.Comparison.{HasCounts, HasRegisterCounts, SaysWhy, HasReason}
use Rattle.comparisons.specs.Lines.{register_word, short_line}
use Rattle.hs_texts.specs.declared.comparisons.NetworkCounts.{NetworkCounts}
use Rattle.kiss_file.specs.declared.file.KissFile.{KissFile}
use Rattle.shift_texts.specs.Causes.{RefusesShift}
use Rattle.split_texts.specs.Causes.{IsNotWritten}
use Rattle.state_codes.specs.declared.split.Kind.{Kind}
use Rattle.state_codes.specs.declared.split.Kind.TheVariants.{Assign}

-- the counts have the same latches, and the same reads of latch outputs
pub record HaveSameReads (counts more : NetworkCounts) : Type 0 where
  pub latches : counts.latches ≡ more.latches
  pub reads : counts.reads ≡ more.reads
  pub across : counts.across ≡ more.across

-- of two texts of one job, parts and all counts but those of rows and literals are equal
abbrev pub CountsAreOne : Type 0
CountsAreOne =
    (kind : Kind) (reduce : Bool) (F : KissFile) (parts others : ℕ) (counts more : NetworkCounts) → HasCounts kind reduce F parts counts → HasCounts kind reduce F others more
    → (parts ≡ others) × HaveSameReads counts more

-- the same of two registers
abbrev pub RegisterCountsAreOne : Type 0
RegisterCountsAreOne =
    (reduce : Bool) (F : KissFile) (order other : ℕ) (counts more : NetworkCounts) → HasRegisterCounts reduce F order counts → HasRegisterCounts reduce F other more
    → (order ≡ other) × HaveSameReads counts more

-- a kind that has counts has no reason
abbrev pub NeverBoth : Type 0
NeverBoth = (kind : Kind) (reduce : Bool) (F : KissFile) (parts : ℕ) (counts : NetworkCounts) (line : List ℕ) → HasCounts kind reduce F parts counts → ¬ SaysWhy kind reduce F line

-- nor has a register
abbrev pub NeverBothOfRegister : Type 0
NeverBothOfRegister =
    (reduce : Bool) (F : KissFile) (order : ℕ) (counts : NetworkCounts) (line : List ℕ) → HasRegisterCounts reduce F order counts → ¬ HasReason (RefusesShift reduce F) register_word line

-- all refusals of a kind have one line, if they have lines
abbrev pub ReasonsAreOne : Type 0
ReasonsAreOne = (kind : Kind) (reduce : Bool) (F : KissFile) (line other : List ℕ) → SaysWhy kind reduce F line → SaysWhy kind reduce F other → line ≡ other

-- the same of the refusals of `shift`
abbrev pub RegisterReasonsAreOne : Type 0
RegisterReasonsAreOne =
    (reduce : Bool) (F : KissFile) (line other : List ℕ) → HasReason (RefusesShift reduce F) register_word line → HasReason (RefusesShift reduce F) register_word other → line ≡ other

-- each refusal of a kind without an operand has a line
abbrev pub RefusalsHaveReasons : Type 0
RefusalsHaveReasons =
    (kind : Kind) (reduce : Bool) (F : KissFile) (refusal : Refusal) → kind ≢ Assign → IsNotWritten kind [] reduce F refusal → IsSome (short_line (kind_word kind) refusal)

-- so has each refusal of `shift`
abbrev pub RegisterRefusalsHaveReasons : Type 0
RegisterRefusalsHaveReasons = (reduce : Bool) (F : KissFile) (refusal : Refusal) → RefusesShift reduce F refusal → IsSome (short_line register_word refusal)
