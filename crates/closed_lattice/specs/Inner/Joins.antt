-- Joins with known least closed partitions.
use Rattle.std.specs.Prelude.{ℕ, List, length}
use Rattle.kiss_file.specs.declared.file.KissFile.{KissFile}
use Rattle.partition.specs.Partition.{IsPartition, Le}
use Rattle.pair_operators.specs.Pair.{Pair}
use Rattle.closed_lattice.specs.ClosedPartitions.{IsClosedPartition}

-- r is p joined with closed partitions that are below each closed one above p that meets the condition
pub record Joins (F : KissFile) (Holds : List ℕ → Type 0) (p r : List ℕ) : Type 0 where
  pub lawful : IsPartition (length F.states) r
  pub above : Le p r
  pub below : (q : List ℕ) → IsClosedPartition F q → Le p q → Holds q → Le r q
  pub pairs : (q : List ℕ) → IsPartition (length F.states) q → Le r q → Pair F p q → Pair F r q
