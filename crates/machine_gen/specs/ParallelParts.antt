-- That the machine has a parallel decomposition (source: Hartmanis and Stearns).
use Rattle.std.specs.Prelude.{◌≡◌, ℕ, ◌*◌, ◌/◌, ◌%◌, List, length, map}
use Rattle.std.specs.List.{range_with_len}
use Rattle.kiss_file.specs.declared.file.KissFile.{KissFile}
use Rattle.partition.specs.Partition.{IsOne, IsPartition, IsZero, Together}
use Rattle.pair_operators.specs.Pair.{Closed}
use Rattle.machine_gen.specs.WordMachine.{AreSizes, IsMachineOf}

-- a partition of the states that is closed and nontrivial: neither zero nor one
pub record IsNontrivialClosed (F : KissFile) (p : List ℕ) : Type 0 where
  pub lawful : IsPartition (length F.states) p
  pub closed : Closed F p
  pub not_zero : IsZero p → ⊥
  pub not_one : IsOne p → ⊥

-- two such partitions whose meet is zero: no two states are together in both
pub record AreParallel (F : KissFile) (p q : List ℕ) : Type 0 where
  pub first : IsNontrivialClosed F p
  pub second : IsNontrivialClosed F q
  pub in_zero : (s t : ℕ) → Together p s t → Together q s t → s ≡ t

-- the partition by the first part, and the partition by the second
abbrev pub by_first : ℕ → ℕ → List ℕ
by_first a b = map (λ s. s / b) (range_with_len 0 (a * b))

abbrev pub by_second : ℕ → ℕ → List ℕ
by_second a b = map (λ s. s % b) (range_with_len 0 (a * b))

-- the partitions by the parts of a machine of words are parallel
abbrev pub PartsAreParallel : Type 0
PartsAreParallel = (word : ℕ → ℕ) (a b k : ℕ) (F : KissFile) → AreSizes a b k → IsMachineOf word a b k F → AreParallel F (by_first a b) (by_second a b)
