use Rattle.mm_lattice.proofs.Listed.{lefts_more}
use Rattle.mm_lattice.proofs.listing.with_lefts_asked.Goals as goal

pub loop-right-preserved : goal.loop-right-preserved
loop-right-preserved c =
    let made = c.in_ok-with_right_beside in
    record {
      lefts = rw c.in_ok-push.ensures.items (lefts_more c.args.m.now c.loop-right.yielded c.loop-right.pairs.items c.in-Some.right made.field-0 c.loop-right.invariant.lefts made.ensures.right made.ensures.left);
      asked = made.ensures.asked;
    }

pub with_right_beside-requires-clause-asked : goal.with_right_beside-requires-clause-asked
with_right_beside-requires-clause-asked c = c.loop-right.invariant.asked
