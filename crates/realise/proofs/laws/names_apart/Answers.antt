use Rattle.realise.specs.Laws.Apart.{names_apart}
use Rattle.realise.proofs.laws.names_apart.Goals as goal

pub returns : goal.returns
returns c = names_apart
