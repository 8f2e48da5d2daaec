use Rattle.closed_lattice.proofs.Passing.{not_in_zero}
use Rattle.closed_lattice.proofs.growth.MeetsInZeroCondition.bars.Goals as goal

pub returns : goal.returns
returns c barred = not_in_zero c.args.self.now.other.now c.args._p.now c.args.s c.args.t c.requires.apart c.requires.s (c.same.ensures.0 barred)
