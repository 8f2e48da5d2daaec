-- Lists of least closed partitions.
use Rattle.std.specs.Prelude.{ℕ, ◌<◌, All, AllPairs, List, length}
use Rattle.kiss_file.specs.declared.file.KissFile.{KissFile}
use Rattle.partition.specs.Partition.{Le, Together}
use Rattle.partition.specs.Order.{Before}
use Rattle.closed_lattice.specs.ClosedPartitions.{HasPrincipal, HoldsSome, IsClosedPartition}

-- the list has the least closed partition of each two of the first states that are together in top
abbrev pub HavePrincipals : KissFile → List ℕ → ℕ → List (List ℕ) → Type 0
HavePrincipals F top count found = (s t : ℕ) → s < t → t < count → Together top s t → HasPrincipal F found s t

-- closed partitions other than zero, each once, in ascending order, and among them the least one of each two states
pub record AreGenerators (F : KissFile) (found : List (List ℕ)) : Type 0 where
  pub closed : All (IsClosedPartition F) found
  pub some : All HoldsSome found
  pub ascending : AllPairs Before found
  pub each : (s t : ℕ) → s < t → t < length F.states → HasPrincipal F found s t

-- no partition of the list is strictly below p
abbrev pub IsLeastAmong : List (List ℕ) → List ℕ → Type 0
IsLeastAmong found p = All (λ q. Le q p → Le p q) found
