use Rattle.part_machines.specs.Laws.Cells.{fields_hold_all}
use Rattle.part_machines.proofs.laws.fields_hold_all.Goals as goal

pub returns : goal.returns
returns c = fields_hold_all
