use Rattle.realise.specs.Laws.Carrying.{carried_answers}
use Rattle.realise.proofs.laws.carried_answers.Goals as goal

pub returns : goal.returns
returns c = carried_answers
