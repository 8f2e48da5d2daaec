use Rattle.machine_gen.proofs.Sides.{sides}
use Rattle.machine_gen.proofs.laws.parallel_exists.Goals as goal

pub returns : goal.returns
returns c word a b k F sizes is = sides word a b k F sizes is
