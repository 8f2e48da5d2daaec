use Rattle.symbol_runs.proofs.Runs.{symbol_judged}
use Rattle.symbol_runs.proofs.networks.sim.Goals as goal

pub returns : goal.returns
returns c = symbol_judged c.args.net.now c.args.start.now c.args.symbols.now _ c.ran.result c.requires.start c.ran.ensures
