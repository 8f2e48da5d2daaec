use Rattle.part_laws.proofs.WorkedPart.{machine, not_bits_first}
use Rattle.part_laws.proofs.worked_part.Goals as goal

pub returns-clause-machine : goal.returns-clause-machine
returns-clause-machine c = machine

pub returns-clause-not_bits_first : goal.returns-clause-not_bits_first
returns-clause-not_bits_first c = not_bits_first
