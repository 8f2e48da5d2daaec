use Rattle.net_core.specs.Laws.Flat.{given_step}
use Rattle.net_core.proofs.laws.given_is_a_step.Goals as goal

pub returns : goal.returns
returns c = given_step
