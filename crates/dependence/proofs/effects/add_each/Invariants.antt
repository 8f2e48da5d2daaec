use Rattle.std.proofs.Common.{length, take}
use Rattle.dependence.specs.Inner.Effects.{Adds, ShowAcross}
use Rattle.dependence.proofs.effects.add_each.Given as goal

abbrev pub invariant-loop-row : goal.invariant-loop-row
invariant-loop-row l = Adds l.initial.effects l.effects (ShowAcross (length l.initial.effects) l.words (take l.row-index l.rows) l.others)
