-- The split that a kind makes of a machine, and why there is none.
use Rattle.std.specs.Prelude.{◌≡◌, ◌≤◌, ℕ, All, List, [], ◌∷◌, length}
use Rattle.answers.specs.declared.refusals.Refusal.TheVariants.{NoSplit}
use Rattle.answers.specs.Cause.{Cause, FirstOf}
use Rattle.kiss_file.specs.declared.file.KissFile.{KissFile}
use Rattle.state_codes.specs.declared.split.Kind.{Kind}
use Rattle.state_codes.specs.declared.split.Part.{Part}
use Rattle.state_codes.specs.declared.split.Split.{Split}
use Rattle.state_codes.specs.Fault.{AreApart}
use Rattle.state_codes.specs.Split.{IsPart}
use Rattle.split_texts.specs.Kinds.{row_of}

-- the parts are what the kind asks, best of their kind, and the ones that it takes
pub record AreParts (kind : Kind) (text : List ℕ) (W : KissFile) (parts : List Part) : Type 0 where
  pub asked : (row_of kind).asks text W parts
  pub best : (row_of kind).best W parts
  pub choice : (row_of kind).choice W parts

-- such parts that also distinguish all states, so that they are a split of this kind
pub record IsSplitOf (kind : Kind) (text : List ℕ) (W : KissFile) (parts : List Part) : Type 0 where
  pub made : AreParts kind text W parts
  pub apart : AreApart (length W.states) parts

-- what is known of a split of this kind before it has codes; it can get codes only if its parts distinguish all
-- states
pub record IsPlanned (kind : Kind) (text : List ℕ) (W : KissFile) (split : Split) : Type 0 where
  pub same_kind : split.kind ≡ kind
  pub few : length split.parts ≤ 256
  pub lawful : All (IsPart (length W.states)) split.parts
  pub made : AreParts kind text W split.parts

-- what the kind refuses before a split is sought
abbrev pub Refuses : Kind → List ℕ → KissFile → Cause
Refuses kind text W = (row_of kind).refuses text W

-- the machine has no decomposition of this kind
abbrev pub LacksSplit : Kind → KissFile → Cause
LacksSplit kind W refusal = (refusal ≡ NoSplit kind) × (row_of kind).none W

-- why there is no split, in the order of judgement
abbrev pub HasNoPlan : Kind → List ℕ → KissFile → Cause
HasNoPlan kind text W = FirstOf (Refuses kind text W ∷ LacksSplit kind W ∷ [])
