use Rattle.part_machines.proofs.Making.{parts_never_conflict}
use Rattle.part_machines.proofs.laws.parts_never_conflict.Goals as goal

pub returns : goal.returns
returns c = parts_never_conflict
