use Rattle.std.proofs.Common.{length}
use Rattle.std.specs.List.{flat_map, range_with_len}
use Rattle.closed_lattice.specs.ClosedPartitions.{IsPrincipal}
use Rattle.closed_lattice.specs.Inner.Growth.{IsSettled}
use Rattle.closed_lattice.specs.KnownPrincipals.{ArePrincipalsOf}
use Rattle.pair_operators.specs.Growth.{GrowsOver, pairs_from}
use Rattle.closed_lattice.proofs.growth.grow.Given as goal

abbrev pub invariant-loop-s : goal.invariant-loop-s
invariant-loop-s g l = record {
  known : ArePrincipalsOf l.m l.known;
  settled : IsSettled l.m (g.C.Condition.meets l.condition) l.grown;
  grown : GrowsOver (IsPrincipal l.m) (g.C.Condition.meets l.condition) l.fn.start (flat_map (pairs_from (length l.m.states)) (range_with_len 0 l.s)) l.grown;
}
