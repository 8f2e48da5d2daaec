use Rattle.part_machines.proofs.Making.{parts_are_lawful}
use Rattle.part_machines.proofs.laws.parts_are_lawful.Goals as goal

pub returns : goal.returns
returns c = parts_are_lawful
