use Rattle.net_core.specs.Laws.Unlike.{unlike_answers}
use Rattle.net_core.proofs.worked.worked_answers.Goals as goal

pub returns : goal.returns
returns c = unlike_answers
