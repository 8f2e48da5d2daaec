-- For private functions and proofs only: rows of bits for the blocks of a partition, one after another.
use Rattle.std.specs.Prelude.{◌≡◌, ◌≢◌, ℕ, ◌+◌, ◌*◌, ◌/◌, ◌<◌, ◌≤◌, ◌↔◌, ◌⊎◌, List, [], ◌∷◌, length, slice_index}
use Rattle.partition.specs.Partition.{IsPartition, Together}
use Rattle.partition.specs.Bits.{bit_of}

-- the bit is set: the state is a member of the set that these words keep
abbrev pub Has : List ℕ → ℕ → Type 0
Has words t = bit_of words t ≡ 1

-- up to four words, filled up with zeros to four
abbrev pub four_of : List ℕ → List ℕ
four_of words = slice_index words 0 ∷ slice_index words 1 ∷ slice_index words 2 ∷ slice_index words 3 ∷ []

-- the number of words that the bits of n states need
abbrev pub words_for : ℕ → ℕ
words_for n = (n + 63) / 64

-- the place of bit t of row i, in rows of `width` words one after another
abbrev pub place_in : (width i t : ℕ) → ℕ
place_in width i t = i * width * 64 + t

-- There are `count` rows, exactly one for each block of p with two states or more. Each row has all states of its
-- block and no others. A state that is together with another has a row, and no state has two.
pub record AreRows (p words : List ℕ) (width count : ℕ) : Type 0 where
  pub size : length words ≡ count * width
  pub block : (i s t : ℕ) → i < count → s < 64 * width → t < 64 * width → Has words (place_in width i s) → Has words (place_in width i t) ↔ Together p s t
  pub listed : (s t : ℕ) → Together p s t → s ≢ t → (i : ℕ) × (i < count) × Has words (place_in width i s)
  pub shared : (i : ℕ) → i < count → (s : ℕ) × (t : ℕ) × (s ≢ t) × Together p s t × Has words (place_in width i s)
  pub once : (i j s : ℕ) → i < count → j < count → s < 64 * width → Has words (place_in width i s) → Has words (place_in width j s) → i ≡ j

abbrev pub AreRowsOf : List ℕ → List ℕ → Type 0
AreRowsOf p words = AreRows p words (words_for (length p)) (length words / words_for (length p))

-- two of the first s states have the label
pub record AreTwo (p : List ℕ) (s label : ℕ) : Type 0 where
  pub one : ℕ
  pub other : ℕ
  pub apart : one < other
  pub within : other < s
  pub first : slice_index p one ≡ label
  pub second : slice_index p other ≡ label

-- Numbers of the labels of the first s states: 0 for a label that none of them has, 1 for a label that one of them
-- has, and otherwise the number of a row plus 2, different for each label. There are `count` labels with a row.
pub record AreRowNumbers (p numbers : List ℕ) (count s : ℕ) : Type 0 where
  pub few : count ≤ s
  pub small : (label : ℕ) → slice_index numbers label < count + 2
  pub some : (t : ℕ) → t < s → 1 ≤ slice_index numbers (slice_index p t)
  pub named : (label : ℕ) → 1 ≤ slice_index numbers label → (t : ℕ) × (t < s) × (slice_index p t ≡ label)
  pub alone : (t u : ℕ) → t < s → u < s → slice_index p t ≡ slice_index p u → slice_index numbers (slice_index p t) ≡ 1 → t ≡ u
  pub shared : (label : ℕ) → 2 ≤ slice_index numbers label → AreTwo p s label
  pub once : (a b : ℕ) → slice_index numbers a ≡ slice_index numbers b → 2 ≤ slice_index numbers a → a ≡ b
  pub used : (i : ℕ) → i < count → (label : ℕ) × (slice_index numbers label ≡ i + 2)

-- the state is together with a state of the set
abbrev pub Touches : List ℕ → List ℕ → ℕ → Type 0
Touches p states u = (t : ℕ) × Has states t × Together p t u

-- in r the blocks of the states of the set are one block, and each other block of p stays
pub record JoinsStates (p states r : List ℕ) : Type 0 where
  pub lawful : IsPartition (length p) r
  pub together : (u v : ℕ) → Together r u v ↔ (Together p u v ⊎ (Touches p states u × Touches p states v))
