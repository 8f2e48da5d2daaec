use Rattle.std.proofs.Common.{◌+◌, ◌-◌, length, map}
use Rattle.std.specs.List.{range_with_len}
use Rattle.partition.specs.Partition.{IsHold, IsPartition}
use Rattle.pair_operators.specs.Growth.{GrowsOver}
use Rattle.feedback_split.specs.Carrier.{Suffices}
use Rattle.feedback_split.proofs.carriers.grow_from.Given as goal

abbrev pub invariant-loop-t : goal.invariant-loop-t
invariant-loop-t l = record {
  lawful : IsPartition (length l.m.states) l.grown;
  grown : GrowsOver (IsHold (length l.m.states)) (Suffices l.m l.own) l.fn.start (map (λ t. (l.s, t)) (range_with_len (l.s + 1) (l.t - (l.s + 1)))) l.grown;
}
