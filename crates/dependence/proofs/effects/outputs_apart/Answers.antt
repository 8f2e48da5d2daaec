use Rattle.dependence.proofs.Adding.{outputs_apart}
use Rattle.dependence.proofs.effects.outputs_apart.Goals as goal

pub returns : goal.returns
returns c b = outputs_apart c.args.one.now c.args.other.now b
