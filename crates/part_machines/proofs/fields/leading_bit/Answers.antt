use Rattle.std.proofs.Common.{arith}
use Rattle.part_machines.proofs.Turning.{lead_of_some}
use Rattle.part_machines.proofs.fields.leading_bit.Goals as goal

pub returns-else-number-eq0 : goal.returns-else-number-eq0
returns-else-number-eq0 c = lead_of_some c.args.number (omega arith) (omega arith)
