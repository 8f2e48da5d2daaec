-- The refusals of a machine for which no decomposition is written.
use Rattle.std.specs.Prelude.{◌≡◌, ◌<◌, ℕ, Bool, List, [], ◌∷◌, Some, length, slice_get}
use Rattle.answers.specs.declared.refusals.Refusal.TheVariants.{CodeTooLong, NotApart}
use Rattle.answers.specs.Cause.{Cause, FirstOf}
use Rattle.state_reduce.specs.Work.{OnWork}
use Rattle.kiss_file.specs.declared.file.KissFile.{KissFile}
use Rattle.split_texts.specs.Splits.{AreParts, LacksSplit, Refuses}
use Rattle.state_codes.specs.declared.split.Kind.{Kind}
use Rattle.state_codes.specs.declared.split.Part.{Part}
use Rattle.state_codes.specs.Code.{IsLength}
use Rattle.state_codes.specs.Fault.{FirstTogether}

-- ---- parts of the states of a machine W
-- `state` and `other` are the names of the first two states, by s and then by t, that are together in all parts
pub record AreFirstTogether (W : KissFile) (parts : List Part) (state other : List ℕ) : Type 0 where
  pub s : ℕ
  pub t : ℕ
  pub first : FirstTogether (length W.states) parts s t
  pub state_name : slice_get W.states s ≡ Some state
  pub other_name : slice_get W.states t ≡ Some other

-- two states are together in all parts
abbrev pub LeavesTogether : KissFile → List Part → Cause
LeavesTogether W parts refusal = (state other : List ℕ) × (refusal ≡ NotApart state other) × AreFirstTogether W parts state other

-- the codes of the parts have more than 64 bits
abbrev pub HasLongCode : List Part → Cause
HasLongCode parts refusal = (bits : ℕ) × (refusal ≡ CodeTooLong bits) × IsLength parts bits × (64 < bits)

-- why parts give no codes, in the order of judgement
abbrev pub HasNoCode : KissFile → List Part → Cause
HasNoCode W parts = FirstOf (LeavesTogether W parts ∷ HasLongCode parts ∷ [])

-- ---- a kind of decomposition of a machine
-- the parts that the kind makes of W call for a refusal
abbrev pub OfParts : Kind → List ℕ → KissFile → (List Part → Cause) → Cause
OfParts kind text W cause refusal = (parts : List Part) × AreParts kind text W parts × cause parts refusal

-- why no decomposition of W is written, in the order of judgement
abbrev pub HasNoText : Kind → List ℕ → KissFile → Cause
HasNoText kind text W =
    FirstOf (Refuses kind text W ∷ OfParts kind text W (LeavesTogether W) ∷ LacksSplit kind W ∷ OfParts kind text W HasLongCode ∷ [])

-- the same for the machine that a command works on
abbrev pub IsNotWritten : Kind → List ℕ → Bool → KissFile → Cause
IsNotWritten kind text reduce F refusal = OnWork reduce F (λ W. HasNoText kind text W refusal)
