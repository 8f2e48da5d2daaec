-- What a parallel split is (source: Hartmanis and Stearns).
use Rattle.std.specs.Prelude.{◌≡◌, ℕ, ◌≤◌, All, List, [], length}
use Rattle.kiss_file.specs.declared.file.KissFile.{KissFile}
use Rattle.closed_lattice.specs.ClosedPartitions.{IsClosedPartition}
use Rattle.closed_lattice.specs.Limits.{MeetInZero}
use Rattle.state_codes.specs.declared.split.Part.{Part}
use Rattle.partition.specs.Partition.{IsNontrivial}
use Rattle.state_codes.specs.Kinds.{IsOwnCarrier, PartsMeetInZero}

-- no two nontrivial closed partitions meet in zero
abbrev pub HasNoneInParallel : KissFile → Type 0
HasNoneInParallel F =
    (p q : List ℕ) → IsClosedPartition F p → IsClosedPartition F q → IsNontrivial p → IsNontrivial q → MeetInZero q p → ⊥

-- nontrivial closed partitions whose meet is zero, none of which reads another
pub record IsParallel (F : KissFile) (parts : List Part) : Type 0 where
  pub several : 2 ≤ length parts
  pub own : All IsOwnCarrier parts
  pub closed : All (λ part. IsClosedPartition F part.partition) parts
  pub nontrivial : All (λ part. IsNontrivial part.partition) parts
  pub in_zero : PartsMeetInZero parts
  pub reads : All (λ part. part.reads ≡ []) parts
