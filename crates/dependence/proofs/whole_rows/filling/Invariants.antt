use Rattle.std.proofs.Common.{take}
use Rattle.dependence.specs.Inner.FilledRows.{IsFilling}
use Rattle.dependence.proofs.whole_rows.filling.Given as goal

abbrev pub invariant-loop-row : goal.invariant-loop-row
invariant-loop-row l = IsFilling (take l.row-index l.rows) l.s l.cube l.outputs l.added
