-- Covers of the states of a machine by blocks that may overlap (source: Hartmanis and Stearns, set systems and state
-- splitting). Blocks are lists of states.
use Rattle.std.specs.Prelude.{◌≡◌, ◌≢◌, ℕ, ◌<◌, ◌≤◌, ◌⊎◌, All, AllPairs, Contains, List, [], length, slice_index_or, sum_by}
use Rattle.partition.specs.Partition.{IsStateCount}

-- the block with the number j, or no states if there is no such block
abbrev pub block_at : List (List ℕ) → ℕ → List ℕ
block_at blocks j = slice_index_or blocks j []

-- the block has the state
abbrev pub Has : List (List ℕ) → ℕ → ℕ → Type 0
Has blocks j s = Contains (block_at blocks j) s

-- some of n states, in ascending order
pub record IsBlock (n : ℕ) (block : List ℕ) : Type 0 where
  pub some : 0 < length block
  pub states : All (λ s. s < n) block
  pub ascending : AllPairs (λ s t. s < t) block

-- a and b are two blocks, and each state of a is in b
pub record IsWithin (blocks : List (List ℕ)) (a b : ℕ) : Type 0 where
  pub first : a < length blocks
  pub second : b < length blocks
  pub two : a ≢ b
  pub each : (s : ℕ) → Has blocks a s → Has blocks b s

-- no block is within another
abbrev pub NoneIsWithin : List (List ℕ) → Type 0
NoneIsWithin blocks = (a b : ℕ) → IsWithin blocks a b → ⊥

-- some block has the state
abbrev pub IsInSomeBlock : List (List ℕ) → ℕ → Type 0
IsInSomeBlock blocks s = (j : ℕ) × (j < length blocks) × Has blocks j s

-- the number of places of all blocks together
abbrev pub places_of : List (List ℕ) → ℕ
places_of blocks = sum_by length blocks

-- there is only one block, or no block has two states
abbrev pub IsTrivial : List (List ℕ) → Type 0
IsTrivial blocks = (length blocks ≡ 1) ⊎ All (λ block. length block < 2) blocks

-- the blocks are a cover of n states
pub record IsStateCover (n : ℕ) (blocks : List (List ℕ)) : Type 0 where
  pub count : IsStateCount n
  pub lawful : All (IsBlock n) blocks
  pub apart : NoneIsWithin blocks
  pub each : (s : ℕ) → s < n → IsInSomeBlock blocks s
  pub few : places_of blocks ≤ 256
  pub rich : IsTrivial blocks → ⊥
