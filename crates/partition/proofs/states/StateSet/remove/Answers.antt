use Rattle.std.proofs.Common.{arith}
use Rattle.partition.proofs.Words.{bit_cleared, bits_cleared_other}
use Rattle.partition.proofs.states.StateSet.remove.Goals as goal

pub returns-clause-out : goal.returns-clause-out
returns-clause-out c = bit_cleared c.self.inside.words c.args.t (omega (arith, c.self.told))

pub returns-clause-others : goal.returns-clause-others
returns-clause-others c u other = rw (← c.self.view_is) (bits_cleared_other c.self.inside.words c.args.t u (omega (arith, c.self.told)) other)
