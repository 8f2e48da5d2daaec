-- Partitions of a machine's states and its outputs (source: Hartmanis and Stearns, output-consistent partitions).
use Rattle.std.specs.Prelude.{◌≡◌, ◌<◌, ◌↔◌, ℕ, Bool, List, length}
use Rattle.closed_lattice.specs.ClosedPartitions.{IsClosedPartition}
use Rattle.kiss_file.specs.declared.file.KissFile.{KissFile}
use Rattle.kiss_file.specs.Machine.{output_bit}
use Rattle.pair_operators.specs.Consistency.{Consistent}
use Rattle.partition.specs.Partition.{IsPartition, Together}

-- a partition of the states that is closed and consistent
abbrev pub IsClosedAndConsistent : KissFile → List ℕ → Type 0
IsClosedAndConsistent F p = IsClosedPartition F p × Consistent F p

-- the output with the given number is equal for each symbol
abbrev pub GiveEqualBits : KissFile → (bit s t : ℕ) → Type 0
GiveEqualBits F bit s t = (x : List Bool) → length x ≡ F.inputs → output_bit F s x bit ≡ output_bit F t x bit

-- the partition of the states in which two are together exactly where they agree in that output
pub record IsOutputPartition (F : KissFile) (bit : ℕ) (p : List ℕ) : Type 0 where
  pub lawful : IsPartition (length F.states) p
  pub together : (s t : ℕ) → s < length F.states → t < length F.states → Together p s t ↔ GiveEqualBits F bit s t
