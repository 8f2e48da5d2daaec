use Rattle.net_core.specs.Laws.Determined.{blif_one}
use Rattle.net_core.proofs.laws.blif_once.Goals as goal

pub returns : goal.returns
returns c = blif_one
