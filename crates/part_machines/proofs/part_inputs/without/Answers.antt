use Rattle.std.proofs.Common.{arith}
use Rattle.part_machines.proofs.Gathering.{bits_without}
use Rattle.part_machines.proofs.part_inputs.without.Goals as goal

pub returns : goal.returns
returns c d = bits_without c.args.word c.args.other d (omega arith) (omega arith)
