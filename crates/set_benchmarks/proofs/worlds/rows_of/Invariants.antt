use Rattle.std.proofs.Common.{All}
use Rattle.partition.specs.Partition.{IsPartition}
use Rattle.set_benchmarks.proofs.worlds.rows_of.Given as goal

abbrev pub invariant-loop-p : goal.invariant-loop-p
invariant-loop-p l = All (IsPartition l.n) l.rows.items
