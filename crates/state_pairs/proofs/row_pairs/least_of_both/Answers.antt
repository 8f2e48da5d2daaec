use Rattle.cubes.specs.Laws.SharedCubes.{first_holds, least_below, least_le, second_holds}
use Rattle.state_pairs.proofs.row_pairs.least_of_both.Goals as goal

pub returns-then-meets-clause-first : goal.returns-then-meets-clause-first
returns-then-meets-clause-first c = first_holds c.args.cube.now c.args.other.now c.requires (c.meets.ensures.0 c.if-meets.true)

pub returns-then-meets-clause-second : goal.returns-then-meets-clause-second
returns-then-meets-clause-second c = second_holds c.args.cube.now c.args.other.now c.requires (c.meets.ensures.0 c.if-meets.true)

pub returns-then-meets-clause-within : goal.returns-then-meets-clause-within
returns-then-meets-clause-within c = least_below c.args.cube.now c.args.other.now c.requires

pub returns-then-meets-clause-least : goal.returns-then-meets-clause-least
returns-then-meets-clause-least c y first second _ = least_le c.args.cube.now c.args.other.now y first second
