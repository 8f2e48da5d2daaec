use Rattle.std.proofs.Common.{◌+◌, ◌-◌, length, map}
use Rattle.std.specs.List.{range_with_len}
use Rattle.partition.specs.Partition.{IsPartition}
use Rattle.pair_operators.specs.Growth.{GrowsOver}
use Rattle.mm_lattice.specs.Generators.{IsRightOf}
use Rattle.mm_lattice.specs.Top.{IsBelowOne}
use Rattle.mm_lattice.proofs.top.grow_from.Given as goal

abbrev pub invariant-loop-t : goal.invariant-loop-t
invariant-loop-t l = record {
  lawful : IsPartition (length l.m.states) l.grown;
  grown : GrowsOver (IsRightOf l.m) IsBelowOne l.fn.start (map (λ t. (l.s, t)) (range_with_len (l.s + 1) (l.t - (l.s + 1)))) l.grown;
}
