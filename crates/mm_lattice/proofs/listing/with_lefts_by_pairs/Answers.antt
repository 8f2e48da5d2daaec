use Rattle.std.proofs.Common.{refl}
use Rattle.mm_lattice.proofs.Listed.{lefts_more}
use Rattle.mm_lattice.proofs.listing.with_lefts_by_pairs.Goals as goal

pub loop-right-preserved : goal.loop-right-preserved
loop-right-preserved c =
    rw c.in_ok-push.ensures.items
    (lefts_more c.args.m.now c.loop-right.yielded c.loop-right.pairs.items c.in-Some.right (record { left = c.in_ok-left.left; right = c.in-Some.right }) c.loop-right.invariant refl c.in_ok-left.ensures)
