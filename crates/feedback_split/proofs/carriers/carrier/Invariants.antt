use Rattle.std.proofs.Common.{length}
use Rattle.std.specs.List.{flat_map, range_with_len}
use Rattle.partition.specs.Partition.{IsHold, IsPartition}
use Rattle.pair_operators.specs.Growth.{GrowsOver, pairs_from}
use Rattle.feedback_split.specs.Carrier.{Suffices}
use Rattle.feedback_split.proofs.carriers.carrier.Given as goal

abbrev pub invariant-loop-s : goal.invariant-loop-s
invariant-loop-s l = record {
  lawful : IsPartition (length l.m.states) l.carrier;
  grown : GrowsOver (IsHold (length l.m.states)) (Suffices l.m l.own) l.other (flat_map (pairs_from (length l.m.states)) (range_with_len 0 l.s)) l.carrier;
}
