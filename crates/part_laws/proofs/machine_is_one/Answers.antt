use Rattle.part_laws.proofs.OneMachine.{machine_is_one}
use Rattle.part_laws.proofs.machine_is_one.Goals as goal

pub returns : goal.returns
returns c = machine_is_one
