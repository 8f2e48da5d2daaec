use Rattle.realise.proofs.FlatNetworks.{realised_flat}
use Rattle.realise.proofs.laws.realised_is_flat.Goals as goal

pub returns : goal.returns
returns c = realised_flat
