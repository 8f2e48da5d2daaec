use Rattle.part_texts.specs.Laws.Causes.{part_has_one_answer}
use Rattle.part_texts.proofs.laws.part_has_one_answer.Goals as goal

pub returns : goal.returns
returns c = part_has_one_answer
