use Rattle.partition.specs.Laws.Extremes.{IsCount}
use Rattle.partition.proofs.Partition.zero.Given as goal

abbrev pub invariant-loop-s : goal.invariant-loop-s
invariant-loop-s l = IsCount l.labels.items l.s
