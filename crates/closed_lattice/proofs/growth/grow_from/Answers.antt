use Rattle.std.proofs.Common.{ℕ, List, length}
use Rattle.closed_lattice.specs.ClosedPartitions.{IsPrincipal}
use Rattle.pair_operators.specs.Laws.Growth.{pair_taken}
use Rattle.closed_lattice.proofs.Passing.{settled_taken}
use Rattle.closed_lattice.proofs.growth.grow_from.Goals as goal

pub loop-t-preserved : goal.loop-t-preserved
loop-t-preserved g c =
    let F = c.args.m.now in
    let Meets : List ℕ → Type 0 = g.C.Condition.meets c.args.condition.now in
    let so_far = c.loop-t.invariant in
    let takes = c.in_ok-grow_by.ensures.takes in
    record {
      known = c.in_ok-grow_by.ensures.known;
      settled = settled_taken F Meets c.loop-t.grown c.args.s c.loop-t.t c.grow_by.new.grown so_far.settled takes;
      grown = (pair_taken (length F.states) (IsPrincipal F) Meets c.args.grown.now c.loop-t.grown c.args.s c.loop-t.t takes.generator takes.joined c.grow_by.new.grown
          so_far.settled.0.0 so_far.grown takes.generates takes.joins takes.taken c.loop-t.auto.t).1;
    }
