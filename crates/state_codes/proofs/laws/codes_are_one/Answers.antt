use Rattle.state_codes.specs.Laws.Codes.{codes_are_one}
use Rattle.state_codes.proofs.laws.codes_are_one.Goals as goal

pub returns : goal.returns
returns c = codes_are_one
