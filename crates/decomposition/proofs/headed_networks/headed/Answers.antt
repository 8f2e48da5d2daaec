use Rattle.std.proofs.Common.{refl}
use Rattle.decomposition.proofs.headed_networks.headed.Goals as goal

pub returns : goal.returns
returns c = record { of_split = c.in_ok-header.ensures; network = refl }
