use Rattle.decomposition.proofs.Flowing.{flow_permits}
use Rattle.decomposition.proofs.laws.flow_permits.Goals as goal

pub returns : goal.returns
returns c = flow_permits
