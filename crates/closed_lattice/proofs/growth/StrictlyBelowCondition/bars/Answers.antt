use Rattle.std.proofs.Common.{arith}
use Rattle.std.proofs.lemmas.Bool.{leb-true}
use Rattle.closed_lattice.proofs.Passing.{no_block_between}
use Rattle.closed_lattice.proofs.growth.StrictlyBelowCondition.bars.Goals as goal

pub returns-else-not-same : goal.returns-else-not-same
returns-else-not-same c barred =
    let near = leb-true c.args.self.now.rank _ barred in
    no_block_between c.args.self.now.top.now c.args.p.now c.args.s c.args.t c.rank.ensures.lawful c.requires.suits.0 c.requires.s c.requires.t c.requires.apart
    (omega (arith, near, c.rank.ensures.rank, c.requires.suits.1))
