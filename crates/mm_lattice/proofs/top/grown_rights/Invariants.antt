use Rattle.std.proofs.Common.{length}
use Rattle.std.specs.List.{flat_map, range_with_len}
use Rattle.partition.specs.Partition.{IsPartition, zero_of}
use Rattle.pair_operators.specs.Growth.{GrowsOver, pairs_from}
use Rattle.mm_lattice.specs.Generators.{IsRightOf}
use Rattle.mm_lattice.specs.Top.{IsBelowOne}
use Rattle.mm_lattice.proofs.top.grown_rights.Given as goal

abbrev pub invariant-loop-s : goal.invariant-loop-s
invariant-loop-s l = record {
  lawful : IsPartition (length l.m.states) l.grown;
  grown : GrowsOver (IsRightOf l.m) IsBelowOne (zero_of (length l.m.states)) (flat_map (pairs_from (length l.m.states)) (range_with_len 0 l.s)) l.grown;
}
