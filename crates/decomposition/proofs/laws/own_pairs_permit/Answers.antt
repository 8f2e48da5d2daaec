use Rattle.decomposition.proofs.Flowing.{own_pairs_permit}
use Rattle.decomposition.proofs.laws.own_pairs_permit.Goals as goal

pub returns : goal.returns
returns c = own_pairs_permit
