use Rattle.mm_lattice.proofs.Placed.{placing_done, placing_more}
use Rattle.mm_lattice.proofs.placed_pairs.add_placed.Goals as goal
use Rattle.std.proofs.Common.{refl, arith}

pub loop-s-preserved : goal.loop-s-preserved
loop-s-preserved c =
    rw c.in_ok-push.ensures.items
    (placing_more c.args.m.now c.args.rights.now c.args.t c.loop-s.s c.loop-s.pairs.items (record { s = c.loop-s.s; t = c.args.t; place = c.in-Some.place }) c.loop-s.invariant
    (record { order = c.loop-s-test.true; state = c.requires.t; right = c.in_ok-right.right; at = c.in-Some.ensures; is = c.in_ok-right.ensures }) refl refl)

pub returns-clause-each : goal.returns-clause-each
returns-clause-each c all = placing_done c.args.m.now c.args.rights.now c.args.t c.loop-s.s c.loop-s.pairs.items c.loop-s.invariant c.loop-s-test.false
