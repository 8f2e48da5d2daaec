-- Closed partitions of a machine's states, and the least of them (source: Hartmanis and Stearns, partitions with the
-- substitution property).
use Rattle.std.specs.Prelude.{ℕ, ◌<◌, Contains, List, length}
use Rattle.kiss_file.specs.declared.file.KissFile.{KissFile}
use Rattle.partition.specs.Partition.{IsPartition, Together, Le}
use Rattle.pair_operators.specs.Pair.{Closed}

-- a partition of the states that is closed
abbrev pub IsClosedPartition : KissFile → List ℕ → Type 0
IsClosedPartition F p = IsPartition (length F.states) p × Closed F p

-- the least closed partition that holds s and t together
pub record IsPrincipal (F : KissFile) (s t : ℕ) (p : List ℕ) : Type 0 where
  pub lawful : IsPartition (length F.states) p
  pub closed : Closed F p
  pub together : Together p s t
  pub least : (other : List ℕ) → IsClosedPartition F other → Together other s t → Le p other

-- the least closed partition of some two states that are together in top
abbrev pub IsPrincipalWithin : KissFile → List ℕ → List ℕ → Type 0
IsPrincipalWithin F top p = (s : ℕ) × (t : ℕ) × (s < t) × Together top s t × IsPrincipal F s t p

-- the least closed partition that holds the two states together is in the list
abbrev pub HasPrincipal : KissFile → List (List ℕ) → (s t : ℕ) → Type 0
HasPrincipal F found s t = (p : List ℕ) × Contains found p × IsPrincipal F s t p

-- some two states are together: it is not zero
abbrev pub HoldsSome : List ℕ → Type 0
HoldsSome p = (s : ℕ) × (t : ℕ) × (s < t) × Together p s t

-- a closed partition other than zero, with no closed partition strictly between it and zero
pub record IsAtom (F : KissFile) (p : List ℕ) : Type 0 where
  pub closed : IsClosedPartition F p
  pub some : HoldsSome p
  pub least : (other : List ℕ) → IsClosedPartition F other → HoldsSome other → Le other p → Le p other
