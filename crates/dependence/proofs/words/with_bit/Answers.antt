use Rattle.dependence.specs.Laws.Words.{with_bit}
use Rattle.dependence.proofs.words.with_bit.Goals as goal

pub returns : goal.returns
returns c = with_bit c.args.set c.args.c c.requires
