use Rattle.std.proofs.Common.{length, take}
use Rattle.dependence.specs.Inner.Effects.{Adds, ShowBeside}
use Rattle.dependence.proofs.effects.add_of_row.Given as goal

abbrev pub invariant-loop-other : goal.invariant-loop-other
invariant-loop-other l = Adds l.initial.effects l.effects (ShowBeside (length l.initial.effects) l.words (take l.other-index l.others) l.row)
