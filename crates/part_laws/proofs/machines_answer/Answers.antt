use Rattle.part_laws.proofs.Whole.{machines_answer}
use Rattle.part_laws.proofs.machines_answer.Goals as goal

pub returns : goal.returns
returns c = machines_answer
