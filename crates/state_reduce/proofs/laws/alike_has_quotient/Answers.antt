use Rattle.state_reduce.specs.Laws.Unrefused.{unrefused}
use Rattle.state_reduce.proofs.laws.alike_has_quotient.Goals as goal

pub returns : goal.returns
returns c F p fail inside is caused = unrefused F p is fail inside caused
