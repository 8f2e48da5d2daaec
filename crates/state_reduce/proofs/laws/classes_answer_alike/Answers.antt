use Rattle.state_reduce.proofs.Working.{classes_answer_alike}
use Rattle.state_reduce.proofs.laws.classes_answer_alike.Goals as goal

pub returns : goal.returns
returns c = classes_answer_alike
