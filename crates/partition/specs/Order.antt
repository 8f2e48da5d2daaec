-- The order of partitions.
use Rattle.std.specs.Prelude.{◌≡◌, ℕ, ◌<◌, ◌⊎◌, List, length, slice_index}
use Rattle.partition.specs.Partition.{blocks_of}

-- p has the smaller label at the first state where the labels differ
pub record IsSmaller (p q : List ℕ) : Type 0 where
  pub first : ℕ
  pub within : first < length p
  pub same : (s : ℕ) → s < first → slice_index p s ≡ slice_index q s
  pub smaller : slice_index p first < slice_index q first

-- a partition with more blocks comes first; of two partitions with as many blocks, the one with the smaller label
-- at the first difference comes first
abbrev pub Before : List ℕ → List ℕ → Type 0
Before p q = (blocks_of q < blocks_of p) ⊎ ((blocks_of p ≡ blocks_of q) × IsSmaller p q)
