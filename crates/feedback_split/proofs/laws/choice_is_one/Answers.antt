use Rattle.feedback_split.specs.Laws.Chosen.{choice_is_one}
use Rattle.feedback_split.proofs.laws.choice_is_one.Goals as goal

pub returns : goal.returns
returns c = choice_is_one
