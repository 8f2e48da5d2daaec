-- Members of a parallel split in the making.
use Rattle.std.specs.Prelude.{ℕ, ◌+◌, ◌<◌, ◌≤◌, ◌↔◌, All, AllPairs, List, [], ◌∷◌, ◌++◌, length}
use Rattle.std.specs.List.Sorted.{IsPermutation}
use Rattle.kiss_file.specs.declared.file.KissFile.{KissFile}
use Rattle.partition.specs.Partition.{IsOne, IsPartition, IsZero, Together, blocks_of, zero_of}
use Rattle.partition.specs.Order.{Before}
use Rattle.closed_lattice.specs.Limits.{HoldsApart, IsGreatestGrown}
use Rattle.parallel_split.specs.Choice.{SeparatesTo}

-- a greatest closed partition that has two states in two blocks and is not zero
pub record IsMember (F : KissFile) (p : List ℕ) : Type 0 where
  pub s : ℕ
  pub t : ℕ
  pub order : s < t
  pub state : t < length F.states
  pub greatest : IsGreatestGrown F (HoldsApart s t) (zero_of (length F.states)) p
  pub not_zero : IsZero p → ⊥

-- members put in order, whose meet with one is c
pub record AreMembers (F : KissFile) (c : List ℕ) (ordered : List (List ℕ)) : Type 0 where
  pub one : List ℕ
  pub one_lawful : IsPartition (length F.states) one
  pub one_is : IsOne one
  pub found : List (List ℕ)
  pub separates : SeparatesTo F one found c
  pub permutes : IsPermutation found ordered
  pub ascending : AllPairs Before ordered
  pub members : All (IsMember F) ordered
  pub lawful : IsPartition (length F.states) c
  pub together : (s t : ℕ) → s < length F.states → t < length F.states → Together c s t ↔ All (λ p. Together p s t) ordered
  pub few : length ordered + 1 ≤ blocks_of c

-- the list with p in its place in the order
pub record PutsInOrder (old : List (List ℕ)) (p : List ℕ) (new : List (List ℕ)) : Type 0 where
  pub permutes : IsPermutation (old ++ p ∷ []) new
  pub ascending : AllPairs Before new
