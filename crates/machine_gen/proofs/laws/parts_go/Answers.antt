use Rattle.machine_gen.proofs.Going.{go_by_parts}
use Rattle.machine_gen.proofs.laws.parts_go.Goals as goal

pub returns : goal.returns
returns c = go_by_parts
