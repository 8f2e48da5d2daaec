-- The least and the greatest partition of a pair, among all partitions of the states (source: Hartmanis and Stearns, the
-- operators m and M).
use Rattle.std.specs.Prelude.{ℕ, List, length}
use Rattle.kiss_file.specs.declared.file.KissFile.{KissFile}
use Rattle.partition.specs.Partition.{IsPartition, Le}
use Rattle.pair_operators.specs.Pair.{Pair}

-- q is m(p): the least partition that p makes a pair with
pub record IsLow (F : KissFile) (p q : List ℕ) : Type 0 where
  pub lawful : IsPartition (length F.states) q
  pub pair : Pair F p q
  pub least : (other : List ℕ) → IsPartition (length F.states) other → Pair F p other → Le q other

-- p is M(q): the greatest partition that makes a pair with q
pub record IsHigh (F : KissFile) (q p : List ℕ) : Type 0 where
  pub lawful : IsPartition (length F.states) p
  pub pair : Pair F p q
  pub greatest : (other : List ℕ) → IsPartition (length F.states) other → Pair F other q → Le other p

-- each of the two is what the other gives
pub record MmPair (F : KissFile) (p q : List ℕ) : Type 0 where
  pub low : IsLow F p q
  pub high : IsHigh F q p
