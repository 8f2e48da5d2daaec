-- The right sides of pairs of states. All right sides are joins of these.
use Rattle.std.specs.Prelude.{ℕ, List, length}
use Rattle.kiss_file.specs.declared.file.KissFile.{KissFile}
use Rattle.partition.specs.Partition.{IsHold}
use Rattle.pair_operators.specs.Extremes.{IsLow}

-- q is m of the partition that holds s and t together and nothing else
pub record IsRightOf (F : KissFile) (s t : ℕ) (q : List ℕ) : Type 0 where
  pub hold : List ℕ
  pub holds : IsHold (length F.states) s t hold
  pub low : IsLow F hold q
