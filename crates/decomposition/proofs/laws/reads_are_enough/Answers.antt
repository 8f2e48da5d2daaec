use Rattle.decomposition.proofs.Enough.{enough}
use Rattle.decomposition.proofs.Flowing.{flow_permits}
use Rattle.decomposition.proofs.laws.reads_are_enough.Goals as goal

pub returns : goal.returns
returns c W parts codes sets stays lawful flows code distinct by_rule =
    enough W parts codes code sets c.rule_is_irredundant.ensures.latches c.rule_is_irredundant.ensures.outputs (flow_permits W parts codes lawful code stays flows) distinct by_rule
