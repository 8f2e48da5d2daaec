-- The headline: what `compare` prints of the machine of a file.
use Rattle.std.specs.Prelude.{◌≡◌, ◌⊎◌, ℕ, Bool, List, [], ◌∷◌, ◌++◌, Some, length}
use Rattle.std.specs.List.{AllZip, flat_map}
use Rattle.answers.specs.declared.refusals.Refusal.{Refusal}
use Rattle.answers.specs.Cause.{CallsForNone, Cause}
use Rattle.blif_out.specs.declared.networks.HeadedNetwork.{HeadedNetwork}
use Rattle.blif_out.specs.Design.{plain_design}
use Rattle.blif_out.specs.Head.{kind_word}
use Rattle.comparisons.specs.Counts.{AreCounts, AreReadsAcross}
use Rattle.comparisons.specs.Lines.{order_line, parts_line, register_word, short_line}
use Rattle.hs_io.specs.Spelling.{ended}
use Rattle.hs_texts.specs.declared.comparisons.NetworkCounts.{NetworkCounts}
use Rattle.kiss_file.specs.declared.file.KissFile.{KissFile}
use Rattle.shift_real.specs.DefiniteMachine.{IsOrder}
use Rattle.shift_texts.specs.Causes.{RefusesShift}
use Rattle.shift_texts.specs.ShiftText.{IsShiftText}
use Rattle.split_texts.specs.Causes.{IsNotWritten}
use Rattle.split_texts.specs.SplitText.{IsWritten}
use Rattle.state_codes.specs.declared.split.Kind.{Kind}
use Rattle.state_codes.specs.declared.split.Kind.TheVariants.{Cascade, Code, Feedback, Least, Parallel, Serial}
use Rattle.state_reduce.specs.Work.{OnWork}

-- the kinds that are compared, in order: each but the one whose parts are an operand
abbrev pub compared_kinds : List Kind
compared_kinds = Code ∷ Parallel ∷ Serial ∷ Cascade ∷ Feedback ∷ Least ∷ []

-- ---- counts
-- the counts are those of the network and its header, which has so many parts
pub record AreCountsOf (made : HeadedNetwork) (parts : ℕ) (counts : NetworkCounts) : Type 0 where
  pub parts_are : parts ≡ length made.header.parts
  pub across : AreReadsAcross made.network made.header.latches counts.across
  pub counted : AreCounts made.network counts

-- Nothing calls for a refusal by the command of the kind, and there is a text as the command promises it. The counts
-- are those of the network that the text is of, and of its header.
pub record HasCounts (kind : Kind) (reduce : Bool) (F : KissFile) (parts : ℕ) (counts : NetworkCounts) : Type 0 where
  pub fits : CallsForNone (IsNotWritten kind [] reduce F)
  pub written : List ℕ
  pub is_written : IsWritten plain_design kind [] reduce F written
  pub counted : AreCountsOf is_written.0 parts counts

-- Nothing calls for a refusal by `shift`, and there is a text as `shift` promises it. The order is that of the machine
-- that it works on, and the counts are those of the network that the text is of. It has no parts, so that no latch is
-- read across.
pub record HasRegisterCounts (reduce : Bool) (F : KissFile) (order : ℕ) (counts : NetworkCounts) : Type 0 where
  pub fits : CallsForNone (RefusesShift reduce F)
  pub written : List ℕ
  pub is_written : IsShiftText plain_design reduce F written
  pub order_is : OnWork reduce F (λ W. IsOrder W order)
  pub across : counts.across ≡ 0
  pub counted : AreCounts is_written.0.network counts

-- ---- reasons
-- a refusal that is called for has the line, after this word
abbrev pub HasReason : Cause → List ℕ → List ℕ → Type 0
HasReason cause word line = (refusal : Refusal) × cause refusal × (short_line word refusal ≡ Some line)

-- the line says why the command of the kind refuses the machine
abbrev pub SaysWhy : Kind → Bool → KissFile → List ℕ → Type 0
SaysWhy kind reduce F line = HasReason (IsNotWritten kind [] reduce F) (kind_word kind) line

-- ---- lines
-- the line has the counts of the kind's network, or says why there is none
abbrev pub IsKindLine : Bool → KissFile → Kind → List ℕ → Type 0
IsKindLine reduce F kind line =
    ((parts : ℕ) × (counts : NetworkCounts) × HasCounts kind reduce F parts counts × (line ≡ parts_line kind parts counts))
    ⊎ SaysWhy kind reduce F line

-- the line has the counts of the register, or says why there is none
abbrev pub IsRegisterLine : Bool → KissFile → List ℕ → Type 0
IsRegisterLine reduce F line =
    ((order : ℕ) × (counts : NetworkCounts) × HasRegisterCounts reduce F order counts × (line ≡ order_line order counts))
    ⊎ HasReason (RefusesShift reduce F) register_word line

-- the lines of some kinds, in order
abbrev pub AreKindLines : Bool → KissFile → List Kind → List (List ℕ) → Type 0
AreKindLines reduce F kinds lines = AllZip (IsKindLine reduce F) kinds lines

-- the text has a line for each kind, in order, and then the line of the register
abbrev pub IsCompared : Bool → KissFile → List ℕ → Type 0
IsCompared reduce F text =
    (lines : List (List ℕ)) × (last : List ℕ) × AreKindLines reduce F compared_kinds lines × IsRegisterLine reduce F last × (text ≡ flat_map ended (lines ++ last ∷ []))
