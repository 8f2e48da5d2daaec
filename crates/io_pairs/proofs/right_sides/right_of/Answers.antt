use Rattle.io_pairs.specs.Inner.Families.{functions_of}
use Rattle.io_pairs.proofs.Found.{right_tied}
use Rattle.io_pairs.proofs.right_sides.right_of.Goals as goal

pub returns : goal.returns
returns c =
    let family = c.args.family.now in
    right_tied family.values (functions_of family) c.args.x c.args.y c.in_ok-right.right c.tie.new.q c.in_ok-right.ensures.lawful c.in_ok-right.ensures.labels c.tie.ensures
