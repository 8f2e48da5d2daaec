use Rattle.shift_texts.specs.Laws.Causes.{shift_has_one_answer}
use Rattle.shift_texts.proofs.laws.shift_has_one_answer.Goals as goal

pub returns : goal.returns
returns c = shift_has_one_answer
