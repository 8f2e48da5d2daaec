use Rattle.part_machines.specs.Laws.Cells.{fields_are_apart}
use Rattle.part_machines.proofs.laws.fields_are_apart.Goals as goal

pub returns : goal.returns
returns c = fields_are_apart
