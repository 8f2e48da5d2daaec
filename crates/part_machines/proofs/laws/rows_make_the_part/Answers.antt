use Rattle.part_machines.proofs.Making.{rows_make_the_part}
use Rattle.part_machines.proofs.laws.rows_make_the_part.Goals as goal

pub returns : goal.returns
returns c = rows_make_the_part
