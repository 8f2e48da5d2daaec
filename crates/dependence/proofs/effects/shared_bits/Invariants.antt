use Rattle.std.proofs.Common.{All, take}
use Rattle.dependence.specs.Inner.Effects.{HasBits}
use Rattle.dependence.proofs.effects.shared_bits.Given as goal

abbrev pub invariant-loop-row : goal.invariant-loop-row
invariant-loop-row l = All (HasBits l.ones l.zeros) (take l.row-index l.rows)
