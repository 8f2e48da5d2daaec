use Rattle.std.proofs.Common.{take}
use Rattle.dependence.specs.Inner.FilledRows.{AreThoseMet}
use Rattle.dependence.proofs.whole_rows.rows_met.Given as goal

abbrev pub invariant-loop-row : goal.invariant-loop-row
invariant-loop-row l = AreThoseMet (take l.row-index l.rows) l.cube l.met.items
