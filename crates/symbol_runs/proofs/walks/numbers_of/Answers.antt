use Rattle.symbol_runs.specs.Laws.Causes.{symbols_none}
use Rattle.symbol_runs.proofs.walks.numbers_of.Goals as goal

pub returns-in-Ok : goal.returns-in-Ok
returns-in-Ok c = (symbols_none c.args.inputs c.args.symbols.now _ c.in-Ok.ensures.read, (c.in-Ok.ensures.read, c.in-Ok.ensures.below))
