use Rattle.std.proofs.Common.{◌≡◌, length}
use Rattle.partition.specs.Laws.Extremes.{IsHolding}
use Rattle.partition.proofs.Partition.hold.Given as goal

abbrev pub invariant-loop-u : goal.invariant-loop-u
invariant-loop-u l = record {
  size : length l.values.items ≡ l.u;
  holding : IsHolding l.s l.t l.values.items;
}
