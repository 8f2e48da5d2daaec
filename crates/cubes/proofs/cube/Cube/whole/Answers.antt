use Rattle.std.proofs.lemmas.Nat.{and_comm}
use Rattle.cubes.specs.Laws.Held.{held_from_mask}
use Rattle.cubes.proofs.cube.Cube.whole.Goals as goal

pub returns-clause-all : goal.returns-clause-all
returns-clause-all c y = held_from_mask _ y (and_comm y 0)
