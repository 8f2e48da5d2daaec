use Rattle.std.proofs.Common.{◌+◌, ◌-◌, map}
use Rattle.std.specs.List.{range_with_len}
use Rattle.closed_lattice.specs.ClosedPartitions.{IsPrincipal}
use Rattle.closed_lattice.specs.Inner.Growth.{IsSettled}
use Rattle.closed_lattice.specs.KnownPrincipals.{ArePrincipalsOf}
use Rattle.pair_operators.specs.Growth.{GrowsOver}
use Rattle.closed_lattice.proofs.growth.grow_from.Given as goal

abbrev pub invariant-loop-t : goal.invariant-loop-t
invariant-loop-t g l = record {
  known : ArePrincipalsOf l.m l.known;
  settled : IsSettled l.m (g.C.Condition.meets l.condition) l.grown;
  grown : GrowsOver (IsPrincipal l.m) (g.C.Condition.meets l.condition) l.fn.grown (map (λ t. (l.s, t)) (range_with_len (l.s + 1) (l.t - (l.s + 1)))) l.grown;
}
