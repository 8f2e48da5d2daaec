use Rattle.closed_lattice.specs.Laws.Generating.{closed_made, made_closed}
use Rattle.closed_lattice.proofs.laws.closed_are_joins.Goals as goal

pub returns-clause-closed : goal.returns-clause-closed
returns-clause-closed c F generators p inside count closed made = made_closed F generators p inside count closed made

pub returns-clause-joins : goal.returns-clause-joins
returns-clause-joins c F generators p have joins closed = closed_made F generators have p closed closed.0.count joins
