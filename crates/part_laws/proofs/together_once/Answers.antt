use Rattle.part_laws.proofs.Once.{together_once}
use Rattle.part_laws.proofs.together_once.Goals as goal

pub returns : goal.returns
returns c = together_once
