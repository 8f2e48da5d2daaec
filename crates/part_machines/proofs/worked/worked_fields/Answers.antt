use Rattle.part_machines.proofs.SmallCases.{first, not_from_the_end, second, third}
use Rattle.part_machines.proofs.worked.worked_fields.Goals as goal

pub returns-clause-first : goal.returns-clause-first
returns-clause-first c = first

pub returns-clause-second : goal.returns-clause-second
returns-clause-second c = second

pub returns-clause-third : goal.returns-clause-third
returns-clause-third c = third

pub returns-clause-not_from_the_end : goal.returns-clause-not_from_the_end
returns-clause-not_from_the_end c = not_from_the_end
