use Rattle.cubes.specs.Laws.SharedCubes.{dash_at, inside_of, none_before, other_at, within_at}
use Rattle.cubes.proofs.cube.Cube.free_place.Goals as goal

pub returns-then-free-eq0-clause-none : goal.returns-then-free-eq0-clause-none
returns-then-free-eq0-clause-none c = inside_of c.args.self.now c.args.other.now c.requires.width c.requires.meets c.if-free-eq0.true

pub returns-else-free-eq0-clause-within : goal.returns-else-free-eq0-clause-within
returns-else-free-eq0-clause-within c = within_at c.args.self.now c.args.other.now c.requires.width c.if-free-eq0.false

pub returns-else-free-eq0-clause-dash : goal.returns-else-free-eq0-clause-dash
returns-else-free-eq0-clause-dash c = dash_at c.args.self.now c.args.other.now c.requires.width c.if-free-eq0.false

pub returns-else-free-eq0-clause-other : goal.returns-else-free-eq0-clause-other
returns-else-free-eq0-clause-other c = other_at c.args.self.now c.args.other.now c.requires.width c.if-free-eq0.false

pub returns-else-free-eq0-clause-lowest : goal.returns-else-free-eq0-clause-lowest
returns-else-free-eq0-clause-lowest c = none_before c.args.self.now c.args.other.now c.requires.width c.if-free-eq0.false
