use Rattle.closed_lattice.proofs.Passing.{not_in_two_blocks, turned_in_two_blocks}
use Rattle.closed_lattice.proofs.growth.InTwoBlocksCondition.bars.Goals as goal

pub returns-then-both_same : goal.returns-then-both_same
returns-then-both_same c _ =
    let held = c.both_same.ensures.0 c.if-both_same.true in
    not_in_two_blocks c.args.self.now.s c.args.self.now.t c.args.p.now c.args.s c.args.t held.0 held.1

pub returns-else-both_same : goal.returns-else-both_same
returns-else-both_same c barred =
    let held = c.both_same-else-both_same.ensures.0 barred in
    turned_in_two_blocks c.args.self.now.s c.args.self.now.t c.args.p.now c.args.s c.args.t held.0 held.1
