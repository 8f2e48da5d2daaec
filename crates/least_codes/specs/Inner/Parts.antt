-- Partitions of the bits of codes.
use Rattle.std.specs.Prelude.{◌≡◌, ℕ, ◌<◌, List, length, map, slice_get, Some}
use Rattle.std.specs.Int.{bit_at}

-- the labels of the states by one bit
abbrev pub bit_labels : ℕ → List ℕ → List ℕ
bit_labels i words = map (λ word. bit_at word i) words

-- the labels of the states by each bit
pub record AreBitLabels (bits : ℕ) (words : List ℕ) (partitions : List (List ℕ)) : Type 0 where
  pub count : length partitions ≡ bits
  pub each : (i : ℕ) → i < bits → slice_get partitions i ≡ Some (bit_labels i words)
