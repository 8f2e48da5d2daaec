use Rattle.part_laws.proofs.Worked.{no_step}
use Rattle.part_laws.proofs.worked_loop.Goals as goal

pub returns : goal.returns
returns c = no_step
