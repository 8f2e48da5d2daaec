use Rattle.net_core.specs.Laws.Determined.{denotes_one}
use Rattle.net_core.proofs.laws.denotes_once.Goals as goal

pub returns : goal.returns
returns c = denotes_one
