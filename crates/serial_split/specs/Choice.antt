-- Which serial split and which cascade, as steps, since these decide which of several right ones is given (source:
-- this project).
use Rattle.std.specs.Prelude.{◌≡◌, ℕ, List, [], ◌∷◌, length, map}
use Rattle.kiss_file.specs.declared.file.KissFile.{KissFile}
use Rattle.partition.specs.Partition.{IsOne, IsPartition, IsZero, Lt, zero_of}
use Rattle.partition.specs.NestedBlocks.{IsComplement, IsInside}
use Rattle.closed_lattice.specs.ClosedPartitions.{IsPrincipal}
use Rattle.pair_operators.specs.Growth.{IsGrowth}
use Rattle.state_codes.specs.declared.split.Part.{Part}

-- p is the growth of zero strictly below top, over the least closed partitions of pairs of states
abbrev pub IsBelow : KissFile → List ℕ → List ℕ → Type 0
IsBelow F top p = IsGrowth (IsPrincipal F) (λ p. Lt p top) (length F.states) (zero_of (length F.states)) p

-- the partitions of the parts
abbrev pub partitions_of : List Part → List (List ℕ)
partitions_of parts = map (λ part. part.partition) parts

-- what grows strictly below one, and its complement
pub record IsSerialChoice (F : KissFile) (parts : List Part) : Type 0 where
  pub one : List ℕ
  pub one_lawful : IsPartition (length F.states) one
  pub one_is : IsOne one
  pub first : List ℕ
  pub grown : IsBelow F one first
  pub second : List ℕ
  pub complement : IsComplement first second
  pub partitions : partitions_of parts ≡ first ∷ second ∷ []

-- As long as c is not zero, the growth strictly below it comes next, and the numbering of its blocks inside c is a part.
abbrev pub StepsDown : KissFile → List ℕ → List (List ℕ) → List ℕ → Type 0
StepsDown F c [] d = c ≡ d
StepsDown F c (p ∷ partitions) d =
    (IsZero c → ⊥) × ((next : List ℕ) × IsBelow F c next × IsInside c next p × StepsDown F next partitions d)

-- the steps from one down to zero
pub record IsCascadeChoice (F : KissFile) (parts : List Part) : Type 0 where
  pub one : List ℕ
  pub one_lawful : IsPartition (length F.states) one
  pub one_is : IsOne one
  pub zero : List ℕ
  pub zero_is : IsZero zero
  pub steps : StepsDown F one (partitions_of parts) zero
