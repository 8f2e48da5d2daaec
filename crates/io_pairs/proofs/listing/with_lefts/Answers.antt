use Rattle.io_pairs.specs.Inner.Families.{functions_of}
use Rattle.io_pairs.proofs.Listed.{lefts_more}
use Rattle.io_pairs.proofs.listing.with_lefts.Goals as goal

pub loop-right-preserved : goal.loop-right-preserved
loop-right-preserved c =
    let family = c.args.family.now in
    rw c.in_ok-push.ensures.items (lefts_more family.members family.values (functions_of family) c.loop-right.yielded c.loop-right.pairs.items
    (record { left = c.in_ok-left.left; right = c.in-Some.right }) c.loop-right.invariant c.in_ok-left.ensures)
