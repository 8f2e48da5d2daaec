use Rattle.machine_table.proofs.GatheredOutputs.{none_gathered}
use Rattle.machine_table.proofs.machine.Machine.gathered_in.Goals as goal

pub loop-tree-init : goal.loop-tree-init
loop-tree-init c = record { next_state = tt; outputs = none_gathered c.args.self.now c.args.s c.args.x }
