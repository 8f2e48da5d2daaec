use Rattle.realise.proofs.Stepping.{realised_carries}
use Rattle.realise.proofs.laws.realised_carries.Goals as goal

pub returns : goal.returns
returns c = realised_carries
