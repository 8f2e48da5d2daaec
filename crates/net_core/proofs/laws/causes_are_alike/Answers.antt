use Rattle.net_core.proofs.Exclusive.{causes_alike}
use Rattle.net_core.proofs.laws.causes_are_alike.Goals as goal

pub returns : goal.returns
returns c = causes_alike
