-- Partitions as texts.
use Rattle.std.specs.Prelude.{◌≡◌, ◌≢◌, ℕ, ◌<◌, ◌≤◌, ◌==◌, List, Some, map, length, slice_index, slice_get}
use Rattle.std.specs.List.{join_with_byte, slice_split}
use Rattle.std.specs.Fmt.{decimal}
use Rattle.partition.specs.declared.PartFail.{PartFail}
use Rattle.partition.specs.declared.PartFail.TheVariants.{Empty, NotCanonical, BadText, WrongLength, NoMemory}
use Rattle.partition.specs.Partition.{blocks_of, IsNumbered}

-- the text of a partition: its labels in decimal digits, joined by commas
abbrev pub labels_text : List ℕ → List ℕ
labels_text labels = join_with_byte 44 (map decimal labels)

-- the pieces of a text between its commas
abbrev pub pieces_of : List ℕ → List (List ℕ)
pieces_of text = slice_split (λ byte. byte == 44) text

-- the first pieces of the text are these labels, which are numbered by first appearance
pub record BeginsWith (text labels : List ℕ) : Type 0 where
  pub numbered : IsNumbered labels
  pub spelled : (place : ℕ) → place < length labels → slice_get (pieces_of text) place ≡ Some (decimal (slice_index labels place))

-- the piece at this place is the first that is not a label that is allowed there
pub record FirstBadPiece (text : List ℕ) (place : ℕ) : Type 0 where
  pub labels : List ℕ
  pub size : length labels ≡ place
  pub begins : BeginsWith text labels
  pub within : place < length (pieces_of text)
  pub bad : (label : ℕ) → label ≤ blocks_of labels → slice_get (pieces_of text) place ≢ Some (decimal label)

-- the text is the text of `found` labels, which are numbered by first appearance, and `found` is not n
pub record OtherLength (n : ℕ) (text : List ℕ) (found : ℕ) : Type 0 where
  pub labels : List ℕ
  pub size : length labels ≡ found
  pub some : 0 < found
  pub other : found ≢ n
  pub numbered : IsNumbered labels
  pub spelled : text ≡ labels_text labels

-- why a text is not a partition of n states
abbrev pub TextFault : ℕ → List ℕ → PartFail → Type 0
TextFault n text Empty = ⊥
TextFault n text (NotCanonical place) = ⊥
TextFault n text (BadText place) = FirstBadPiece text place
TextFault n text (WrongLength found) = OtherLength n text found
TextFault n text NoMemory = ⊥
