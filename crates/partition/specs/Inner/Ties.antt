-- For private functions and proofs only: blocks that a join ties.
use Rattle.std.specs.Prelude.{◌≡◌, ℕ, ◌<◌, ◌↔◌, List, length, slice_index}
use Rattle.partition.specs.Partition.{blocks_of}
use Rattle.partition.specs.MeetAndJoin.{Chain}

-- numbers of the blocks of p, equal exactly where a chain of states leads from the one block to the other
pub record TiesBlocks (p q numbers : List ℕ) : Type 0 where
  pub size : length numbers ≡ blocks_of p
  pub small : (block : ℕ) → block < blocks_of p → slice_index numbers block < blocks_of p
  pub tied : (s t : ℕ) → s < length p → t < length p → (slice_index numbers (slice_index p s) ≡ slice_index numbers (slice_index p t)) ↔ Chain p q s t
