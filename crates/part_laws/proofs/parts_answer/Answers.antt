use Rattle.part_laws.proofs.Texts.{parts_answer}
use Rattle.part_laws.proofs.parts_answer.Goals as goal

pub returns : goal.returns
returns c = parts_answer
