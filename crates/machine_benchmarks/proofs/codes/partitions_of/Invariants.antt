use Rattle.std.proofs.Common.{All}
use Rattle.partition.specs.Partition.{IsPartition}
use Rattle.machine_benchmarks.proofs.codes.partitions_of.Given as goal

abbrev pub invariant-loop-number : goal.invariant-loop-number
invariant-loop-number l = All (IsPartition l.n) l.partitions.items
