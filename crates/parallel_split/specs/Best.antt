-- Parallel splits from which no part can be left out, and whose parts have no parallel split of their own (source:
-- Hartmanis and Stearns; this project).
use Rattle.std.specs.Prelude.{ℕ, ◌<◌, All, List, length}
use Rattle.std.specs.List.{remove}
use Rattle.kiss_file.specs.declared.file.KissFile.{KissFile}
use Rattle.partition.specs.Partition.{Lt}
use Rattle.partition.specs.MeetAndJoin.{IsMeet}
use Rattle.closed_lattice.specs.ClosedPartitions.{IsClosedPartition}
use Rattle.state_codes.specs.declared.split.Part.{Part}
use Rattle.state_codes.specs.Kinds.{PartsMeetInZero}

-- no two closed partitions strictly above p meet in p
abbrev pub IsNoMeetOfTwo : KissFile → List ℕ → Type 0
IsNoMeetOfTwo F p =
    (one other : List ℕ) → IsClosedPartition F one → IsClosedPartition F other → Lt p one → Lt p other
    → IsMeet one other p → ⊥

-- no part is the meet of two closed partitions above it, and the meet of all parts but one is never zero
pub record IsBestParallel (F : KissFile) (parts : List Part) : Type 0 where
  pub irreducible : All (λ part. IsNoMeetOfTwo F part.partition) parts
  pub nothing_to_spare : (j : ℕ) → j < length parts → PartsMeetInZero (remove parts j) → ⊥
