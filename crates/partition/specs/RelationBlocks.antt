-- How a relation of states splits them into blocks, one state after another.
use Rattle.std.specs.Prelude.{◌≡◌, ◌<◌, ◌⊎◌, ℕ, List, take}
use Rattle.partition.specs.Partition.{IsPartition, Together, blocks_of}

-- states that are together are equal or related
abbrev pub AreRelated : (R : ℕ → ℕ → Type 0) → List ℕ → Type 0
AreRelated R p = (s t : ℕ) → Together p s t → (s ≡ t) ⊎ R s t

-- a partition of n states in which states that are together are equal or related, and in which of the first `count`
-- states those that are related are together
pub record IsSplitUpTo (R : ℕ → ℕ → Type 0) (n count : ℕ) (p : List ℕ) : Type 0 where
  pub lawful : IsPartition n p
  pub related : AreRelated R p
  pub kept : (s t : ℕ) → s < count → t < count → R s t → Together p s t

-- of n states, two different ones are together exactly where they are related
abbrev pub IsSplitBy : (R : ℕ → ℕ → Type 0) → ℕ → List ℕ → Type 0
IsSplitBy R n p = IsSplitUpTo R n n p

-- no state below t is related to s, and the states below t are in this number of blocks
pub record IsSearched (R : ℕ → ℕ → Type 0) (p : List ℕ) (s t blocks : ℕ) : Type 0 where
  pub count : blocks ≡ blocks_of (take t p)
  pub none : (u : ℕ) → u < t → ¬ R u s
