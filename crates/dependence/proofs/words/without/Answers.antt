use Rattle.std.proofs.Common.{arith}
use Rattle.dependence.specs.Laws.Words.{without_bit}
use Rattle.dependence.proofs.words.without.Goals as goal

pub returns : goal.returns
returns c = without_bit c.args.set c.args.c (omega arith) c.requires
