use Rattle.net_core.specs.Laws.Determined.{same_answers}
use Rattle.net_core.proofs.laws.answers_are_determined.Goals as goal

pub returns : goal.returns
returns c = same_answers
