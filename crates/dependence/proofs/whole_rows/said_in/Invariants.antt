use Rattle.std.proofs.Common.{take}
use Rattle.dependence.specs.Inner.FilledRows.{SayNothing}
use Rattle.dependence.proofs.whole_rows.said_in.Given as goal

abbrev pub invariant-loop-row : goal.invariant-loop-row
invariant-loop-row l = SayNothing (take l.row-index l.rows) l.cube l.part
