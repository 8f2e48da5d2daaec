use Rattle.std.proofs.Common.{length}
use Rattle.closed_lattice.proofs.Waiting.{states_left, states_taken}
use Rattle.closed_lattice.proofs.closure.learn_pairs.Goals as goal

pub make_known-requires-clause-s : goal.make_known-requires-clause-s
make_known-requires-clause-s c =
    (states_taken (length c.args.m.now.states) c.pop.new.self.items c.in-Some.u c.in-Some.v (rw c.in-Some.ensures.items at c.loop-u.invariant.1)).0

pub make_known-requires-clause-t : goal.make_known-requires-clause-t
make_known-requires-clause-t c =
    (states_taken (length c.args.m.now.states) c.pop.new.self.items c.in-Some.u c.in-Some.v (rw c.in-Some.ensures.items at c.loop-u.invariant.1)).1

pub loop-u-preserved-then-is_none : goal.loop-u-preserved-then-is_none
loop-u-preserved-then-is_none c =
    (c.in_ok-make_known.ensures.known, states_left (length c.args.m.now.states) c.pop.new.self.items c.in-Some.u c.in-Some.v (rw c.in-Some.ensures.items at c.loop-u.invariant.1))

pub loop-u-preserved : goal.loop-u-preserved
loop-u-preserved c =
    (c.loop-u.invariant.0, states_left (length c.args.m.now.states) c.pop.new.self.items c.in-Some.u c.in-Some.v (rw c.in-Some.ensures.items at c.loop-u.invariant.1))
