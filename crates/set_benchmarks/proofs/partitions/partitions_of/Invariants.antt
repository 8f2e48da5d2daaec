use Rattle.std.proofs.Common.{All}
use Rattle.partition.specs.Partition.{IsPartition}
use Rattle.set_benchmarks.proofs.partitions.partitions_of.Given as goal

abbrev pub invariant-loop-i : goal.invariant-loop-i
invariant-loop-i l = All (IsPartition l.n) l.list.items
