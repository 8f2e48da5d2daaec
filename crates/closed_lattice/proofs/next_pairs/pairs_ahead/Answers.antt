use Rattle.std.proofs.Common.{length}
use Rattle.closed_lattice.proofs.Waiting.{states_more}
use Rattle.closed_lattice.proofs.next_pairs.pairs_ahead.Goals as goal

pub loop-last-preserved : goal.loop-last-preserved
loop-last-preserved c =
    let inside = c.in-Some.ensures in
    (rw c.in_ok-push.ensures.items (states_more (length c.args.m.now.states) c.loop-last.pairs.items c.in-Some.u c.in-Some.v c.loop-last.invariant.0 inside.0 inside.1), inside.0, inside.1)
