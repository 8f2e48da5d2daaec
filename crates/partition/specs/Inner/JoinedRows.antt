-- For private functions and proofs only: rows of a partition, put together from rows that lie within its blocks.
use Rattle.std.specs.Prelude.{◌≡◌, ◌≢◌, ℕ, ◌+◌, ◌*◌, ◌<◌, ◌≤◌, min, List, length, slice_index, sum_by}
use Rattle.partition.specs.Partition.{Together}
use Rattle.partition.specs.Inner.Rows.{Has, place_in, AreTwo}

-- there are `count` rows, and each consists of two states or more of one block of p
pub record AreWithin (p words : List ℕ) (width count : ℕ) : Type 0 where
  pub size : length words ≡ count * width
  pub together : (i s t : ℕ) → i < count → s < 64 * width → t < 64 * width → Has words (place_in width i s) → Has words (place_in width i t) → Together p s t
  pub shared : (i : ℕ) → i < count → (s : ℕ) × (t : ℕ) × (s ≢ t) × Together p s t × Has words (place_in width i s)

-- one of the `count` rows has the state
abbrev pub IsInRow : (words : List ℕ) (width count s : ℕ) → Type 0
IsInRow words width count s = (i : ℕ) × (i < count) × Has words (place_in width i s)

-- Numbers of labels of p: 0 for a label that has none, and otherwise the number of a row plus 1, different for each
-- label. There are `count` labels with a row, and each is the label of two states or more.
pub record AreRowNumbers (p numbers : List ℕ) (count : ℕ) : Type 0 where
  pub counted : sum_by (λ number. min number 1) numbers ≡ count
  pub small : (label : ℕ) → slice_index numbers label ≤ count
  pub shared : (label : ℕ) → 1 ≤ slice_index numbers label → AreTwo p (length p) label
  pub once : (a b : ℕ) → slice_index numbers a ≡ slice_index numbers b → 1 ≤ slice_index numbers a → a ≡ b
  pub used : (i : ℕ) → i < count → (label : ℕ) × (slice_index numbers label ≡ i + 1)

-- the labels of all states of the `count` rows have numbers
abbrev pub HaveNumbers : (p words : List ℕ) (width count : ℕ) (numbers : List ℕ) → Type 0
HaveNumbers p words width count numbers = (i s : ℕ) → i < count → s < 64 * width → Has words (place_in width i s) → 1 ≤ slice_index numbers (slice_index p s)

-- the state is in one of the `count` rows, and its label has the number of row j
abbrev pub GoesTo : (p words : List ℕ) (width count : ℕ) (numbers : List ℕ) (j t : ℕ) → Type 0
GoesTo p words width count numbers j t = (slice_index numbers (slice_index p t) ≡ j + 1) × IsInRow words width count t
