-- What is wrong with labels, or with a text, that are not a partition, by the first cause.
use Rattle.std.specs.Prelude.{◌≡◌, ℕ, ◌<◌, ◌≤◌, List, [], length, take, slice_index}
use Rattle.partition.specs.declared.PartFail.{PartFail}
use Rattle.partition.specs.declared.PartFail.TheVariants.{Empty, NotCanonical, BadText, WrongLength, NoMemory}
use Rattle.partition.specs.Partition.{blocks_of}

-- the label keeps the rule of labels by first appearance, and is at most 255
abbrev pub IsLawfulLabel : List ℕ → ℕ → Type 0
IsLawfulLabel labels place = (slice_index labels place ≤ blocks_of (take place labels)) × (slice_index labels place ≤ 255)

abbrev pub AllLawful : List ℕ → Type 0
AllLawful labels = (place : ℕ) → place < length labels → IsLawfulLabel labels place

-- the first label that is not lawful is at this place
pub record FirstUnlawful (labels : List ℕ) (place : ℕ) : Type 0 where
  pub within : place < length labels
  pub before : (earlier : ℕ) → earlier < place → IsLawfulLabel labels earlier
  pub unlawful : IsLawfulLabel labels place → ⊥

-- why labels are refused: there are none, or one is not lawful, or all are lawful and there are too many
abbrev pub LabelFault : List ℕ → PartFail → Type 0
LabelFault labels Empty = labels ≡ []
LabelFault labels (NotCanonical place) = FirstUnlawful labels place
LabelFault labels (BadText place) = ⊥
LabelFault labels (WrongLength found) = AllLawful labels × (256 < length labels) × (found ≡ length labels)
LabelFault labels NoMemory = ⊥
