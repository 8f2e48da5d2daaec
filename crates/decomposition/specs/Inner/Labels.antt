-- Labels of words by a set of their bits, in the order in which the words appear.
use Rattle.std.specs.Prelude.{◌≡◌, ◌≢◌, ℕ, ◌<◌, ◌≤◌, ◌++◌, ◌∷◌, [], List, bit_and, length, slice_index}
use Rattle.partition.specs.Partition.{IsNumbered, blocks_of}

-- the block of a value among those seen; a value that was not seen begins a block
pub record IsSeenAt (old : List ℕ) (value block : ℕ) (new : List ℕ) : Type 0 where
  pub within : block ≤ length old
  pub before : (b : ℕ) → b < block → slice_index old b ≢ value
  pub known : block < length old → (slice_index old block ≡ value) × (new ≡ old)
  pub begun : block ≡ length old → new ≡ old ++ value ∷ []

-- the labels of the first `count` words, and for each block what was seen of its first word
pub record AreLabelled (words : List ℕ) (set : ℕ) (seen labels : List ℕ) (count : ℕ) : Type 0 where
  pub size : length labels ≡ count
  pub numbered : IsNumbered labels
  pub blocks : length seen ≡ blocks_of labels
  pub shown : (s : ℕ) → s < count → slice_index seen (slice_index labels s) ≡ bit_and (slice_index words s) set
  pub apart : (one two : ℕ) → one < two → two < length seen → slice_index seen one ≢ slice_index seen two
