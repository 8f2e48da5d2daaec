-- Two blocks of a partition put together.
use Rattle.std.specs.Prelude.{ℕ, ◌⊎◌, ◌↔◌, List, length}
use Rattle.partition.specs.Partition.{IsPartition, Together}

-- in r the blocks of s and of t in p are one block, and each other block of p stays
pub record IsMerged (p : List ℕ) (s t : ℕ) (r : List ℕ) : Type 0 where
  pub lawful : IsPartition (length p) r
  pub together : (u v : ℕ) → Together r u v
      ↔ (Together p u v ⊎ ((Together p u s × Together p t v) ⊎ (Together p u t × Together p s v)))
