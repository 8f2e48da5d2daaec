-- Feedback splits whose first part and whose carriers cannot be made greater (source: this project).
use Rattle.std.specs.Prelude.{◌≡◌, ℕ, ◌<◌, List, [], ◌∷◌, length}
use Rattle.kiss_file.specs.declared.file.KissFile.{KissFile}
use Rattle.partition.specs.Partition.{Lt, Together}
use Rattle.partition.specs.MergedBlocks.{IsMerged}
use Rattle.mm_lattice.specs.Top.{IsBelowOne, IsRightSide}
use Rattle.state_codes.specs.declared.split.Part.{Part}
use Rattle.feedback_split.specs.Carrier.{Suffices}

-- no right side of an Mm pair is strictly between p and one
abbrev pub NoRightAbove : KissFile → List ℕ → Type 0
NoRightAbove F p = (q : List ℕ) → IsRightSide F q → Lt p q → IsBelowOne q → ⊥

-- c with any two of its blocks put together does not suffice for own
abbrev pub BreaksWhenJoined : KissFile → List ℕ → List ℕ → Type 0
BreaksWhenJoined F own c =
    (s t : ℕ) (joined : List ℕ) → s < length c → t < length c → (Together c s t → ⊥) → IsMerged c s t joined → Suffices F own joined → ⊥

-- no right side is strictly between the first part and one, and no two blocks of a carrier can be put together
pub record IsBestFeedback (F : KissFile) (parts : List Part) : Type 0 where
  pub first : Part
  pub second : Part
  pub two : parts ≡ first ∷ second ∷ []
  pub greatest : NoRightAbove F first.partition
  pub second_carrier : BreaksWhenJoined F first.partition second.carrier
  pub first_carrier : BreaksWhenJoined F second.partition first.carrier
