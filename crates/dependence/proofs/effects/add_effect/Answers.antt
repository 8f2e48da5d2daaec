use Rattle.dependence.proofs.Adding.{adds_effect}
use Rattle.dependence.proofs.effects.add_effect.Goals as goal

pub returns : goal.returns
returns c = adds_effect c.args.effects.now c.args.input c.args.latches c.args.outputs (record { latches = 0; outputs = 0 }) c.requires
