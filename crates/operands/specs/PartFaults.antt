-- The refusals that PART and PARTS call for.
use Rattle.std.specs.Prelude.{◌≡◌, ◌⊎◌, ℕ, ◌<◌, List, Some, slice_get}
use Rattle.answers.specs.Cause.{Cause}
use Rattle.answers.specs.declared.refusals.Refusal.{Refusal}
use Rattle.answers.specs.declared.refusals.Refusal.TheVariants.{PartLabel, PartLength}
use Rattle.partition.specs.Text.{FirstBadPiece, OtherLength}
use Rattle.operands.specs.PartTexts.{IsTextOfPartition, texts_of_parts}

-- the text of the part of this number is not the text of a partition of n states: the refusal has its first label
-- that is not allowed at its place, or the number of its labels
abbrev pub BadPartAt : ℕ → ℕ → List ℕ → Cause
BadPartAt part states text refusal =
    ((place : ℕ) × (refusal ≡ PartLabel part place) × FirstBadPiece text place)
    ⊎ ((found : ℕ) × (refusal ≡ PartLength part found states) × OtherLength states text found)

-- PART is not the text of a partition of n states
abbrev pub BadPart : ℕ → List ℕ → Cause
BadPart states text = BadPartAt 0 states text

-- the part of this number is the first of PARTS that is not the text of a partition of n states, which calls for
-- the refusal
pub record IsFirstBadPart (states : ℕ) (text : List ℕ) (part : ℕ) (refusal : Refusal) : Type 0 where
  pub piece : List ℕ
  pub at : slice_get (texts_of_parts text) part ≡ Some piece
  pub bad : BadPartAt part states piece refusal
  pub before : (number : ℕ) (earlier : List ℕ) → number < part → slice_get (texts_of_parts text) number ≡ Some earlier → (p : List ℕ) × IsTextOfPartition states earlier p

-- a part of PARTS is not the text of a partition of n states
abbrev pub BadParts : ℕ → List ℕ → Cause
BadParts states text refusal = (part : ℕ) × IsFirstBadPart states text part refusal
