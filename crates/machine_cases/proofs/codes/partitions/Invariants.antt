use Rattle.std.proofs.Common.{All}
use Rattle.partition.specs.Partition.{IsPartition}
use Rattle.machine_cases.proofs.codes.partitions.Given as goal

abbrev pub invariant-loop-word : goal.invariant-loop-word
invariant-loop-word l = All (IsPartition l.n) l.parts.items
