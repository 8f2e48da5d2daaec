use Rattle.dependence.proofs.Gathered.{ones_below}
use Rattle.dependence.proofs.words.bits_below.Goals as goal

pub returns-else-bits-eq0 : goal.returns-else-bits-eq0
returns-else-bits-eq0 c = ones_below c.args.bits c.requires
