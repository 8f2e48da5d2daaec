use Rattle.cubes.specs.Laws.Ends.{least_held}
use Rattle.cubes.specs.Laws.SharedCubes.{value_below}
use Rattle.machine_table.proofs.pieces.least_symbol.Goals as goal

pub returns-clause-held : goal.returns-clause-held
returns-clause-held c = least_held c.args.cube.now

pub returns-clause-within : goal.returns-clause-within
returns-clause-within c = value_below c.args.cube.now
