use Rattle.machine_gen.proofs.OneMachine.{one_machine}
use Rattle.machine_gen.proofs.laws.one_machine.Goals as goal

pub returns : goal.returns
returns c = one_machine
