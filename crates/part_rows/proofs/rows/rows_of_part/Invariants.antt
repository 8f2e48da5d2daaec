-- The rows of the cells so far.
use Rattle.std.proofs.Common.{take}
use Rattle.part_rows.proofs.Joined.{AreFirstRows}
use Rattle.part_rows.proofs.rows.rows_of_part.Given as goal

abbrev pub invariant-loop-cell : goal.invariant-loop-cell
invariant-loop-cell l = AreFirstRows l.machine l.codes l.p l.set l.which (take l.cell-index l.cell-items) l.rows.items
