-- The split of the machine of the pairs (source: Hartmanis and Stearns, state splitting).
use Rattle.std.specs.Prelude.{◌≡◌, ℕ, ◌≤◌, ◌↔◌, All, List, [], ◌∷◌, Some, length, slice_get}
use Rattle.kiss_file.specs.declared.file.KissFile.{KissFile}
use Rattle.pair_operators.specs.Pair.{Closed}
use Rattle.partition.specs.Partition.{IsNontrivial, IsPartition, Together, blocks_of}
use Rattle.partition.specs.NestedBlocks.{IsComplement, IsLargestSize}
use Rattle.state_codes.specs.declared.split.Part.{Part}
use Rattle.state_codes.specs.Kinds.{IsOwnCarrier}
use Rattle.cover_split.specs.StateCover.{block_at}
use Rattle.cover_split.specs.Expansion.{IsExpansion, IsPair, pairs_of}

-- pairs are together exactly where their blocks are the same
pub record IsByBlock (blocks : List (List ℕ)) (p : List ℕ) : Type 0 where
  pub lawful : IsPartition (length (pairs_of blocks)) p
  pub together : (i j s k l t : ℕ) → IsPair blocks i j s → IsPair blocks k l t → Together p i k ↔ (j ≡ l)

-- the longest block has the given number of states
pub record IsLongest (blocks : List (List ℕ)) (size : ℕ) : Type 0 where
  pub block : ℕ
  pub reached : length (block_at blocks block) ≡ size
  pub longest : (other : ℕ) → length (block_at blocks other) ≤ size

-- the first part is the partition by blocks; the second, which reads it, separates the pairs of each block
pub record IsSplitByBlock (blocks : List (List ℕ)) (parts : List Part) : Type 0 where
  pub first : Part
  pub second : Part
  pub two : parts ≡ first ∷ second ∷ []
  pub own : All IsOwnCarrier parts
  pub by_block : IsByBlock blocks first.partition
  pub complement : IsComplement first.partition second.partition
  pub nontrivial : IsNontrivial first.partition
  pub first_blocks : blocks_of first.partition ≡ length blocks
  pub second_blocks : IsLongest blocks (blocks_of second.partition)
  pub largest : IsLargestSize first.partition (blocks_of second.partition)
  pub first_reads : first.reads ≡ []
  pub second_reads : second.reads ≡ 0 ∷ []

-- the first part is closed in the machine of the pairs
abbrev pub IsClosedFront : List (List ℕ) → List Part → Type 0
IsClosedFront blocks parts =
    (F E : KissFile) (first : Part) → IsExpansion F blocks E → slice_get parts 0 ≡ Some first → Closed E first.partition
