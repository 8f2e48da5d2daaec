use Rattle.std.proofs.Common.{length}
use Rattle.closed_lattice.specs.ClosedPartitions.{IsPrincipal}
use Rattle.pair_operators.specs.Laws.Growth.{row_taken}
use Rattle.closed_lattice.proofs.growth.grow.Goals as goal

pub loop-s-preserved : goal.loop-s-preserved
loop-s-preserved g c = record {
  known = c.in_ok-grow_from.ensures.known;
  settled = c.in_ok-grow_from.ensures.settled;
  grown = row_taken (length c.args.m.now.states) (IsPrincipal c.args.m.now) (g.C.Condition.meets c.args.condition.now) c.args.start c.loop-s.grown c.grow_from.new.grown c.loop-s.s c.loop-s.invariant.grown c.in_ok-grow_from.ensures.grown;
}
