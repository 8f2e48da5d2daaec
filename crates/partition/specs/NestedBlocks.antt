-- The blocks of one partition inside the blocks of another.
use Rattle.std.specs.Prelude.{◌≡◌, ℕ, zero, suc, ◌+◌, ◌<◌, ◌≤◌, ◌==◌, ◌&&◌, if◌then◌else◌, List, length, slice_index, count_by}
use Rattle.std.specs.List.{position_or_len}
use Rattle.partition.specs.Partition.{IsPartition, zero_of}

-- the least state that is together with s
abbrev pub least_of : List ℕ → ℕ → ℕ
least_of q s = position_or_len (λ label. label == slice_index q s) q

-- the number of blocks of q whose least state is below k and lies in this block of p: the number of states below k
-- that are the least of their block of q and lie there
abbrev pub blocks_below : List ℕ → List ℕ → ℕ → ℕ → ℕ
blocks_below p q block zero = 0
blocks_below p q block (suc k) = blocks_below p q block k + (if (least_of q k == k) && (slice_index p k == block) then 1 else 0)

-- Each state has the number of the blocks of q that lie in its block of p and have a smaller least state
-- than its own block of q.
pub record IsInside (p q r : List ℕ) : Type 0 where
  pub lawful : IsPartition (length p) r
  pub numbers : (s : ℕ) → s < length p → slice_index r s ≡ blocks_below p q (slice_index p s) (least_of q s)

-- the numbering inside p where each state is a block of its own: each state has the number of the smaller states
-- that are together with it
abbrev pub IsComplement : List ℕ → List ℕ → Type 0
IsComplement p r = IsInside p (zero_of (length p)) r

-- the number of states of a block
abbrev pub size_of : List ℕ → ℕ → ℕ
size_of p block = count_by (λ label. label == block) p

-- the largest block has this number of states
pub record IsLargestSize (p : List ℕ) (size : ℕ) : Type 0 where
  pub block : ℕ
  pub reached : size_of p block ≡ size
  pub largest : (other : ℕ) → size_of p other ≤ size
