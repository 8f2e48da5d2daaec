use Rattle.part_laws.proofs.Worked.{answered, some_cubes}
use Rattle.part_laws.proofs.worked_together.Goals as goal

pub returns : goal.returns
returns c = record { some = some_cubes; answered = answered }
