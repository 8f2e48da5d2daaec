use Rattle.part_machines.proofs.SmallCases.{first_field, one_shown, other_field, zero_shown}
use Rattle.part_machines.proofs.worked.worked_cells.Goals as goal

pub returns-clause-first_field : goal.returns-clause-first_field
returns-clause-first_field c = first_field

pub returns-clause-other_field : goal.returns-clause-other_field
returns-clause-other_field c = other_field

pub returns-clause-zero_shown : goal.returns-clause-zero_shown
returns-clause-zero_shown c = zero_shown

pub returns-clause-one_shown : goal.returns-clause-one_shown
returns-clause-one_shown c = one_shown
