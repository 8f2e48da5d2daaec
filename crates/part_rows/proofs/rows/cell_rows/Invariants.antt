-- What is made of the rows so far that are taken.
use Rattle.std.proofs.Common.{filter, length, take}
use Rattle.std.specs.List.{AllZip}
use Rattle.cubes.specs.Field.{characters}
use Rattle.part_machines.specs.PartRows.{IsPartRow, is_taken}
use Rattle.part_rows.specs.Inner.Shown.{IsShown}
use Rattle.part_rows.proofs.rows.cell_rows.Given as goal
use Rattle.state_codes.specs.declared.Codes.{Codes}

abbrev pub invariant-loop-row : goal.invariant-loop-row
invariant-loop-row l =
    (codes : Codes) → IsShown codes l.p l.set.latches l.which l.cell
    → AllZip (IsPartRow l.machine codes l.p l.set l.which l.cell.state (characters (length l.set.latches) l.cell.field.care l.cell.field.value))
    (filter (is_taken l.machine.outputs l.which) (take l.row-index l.row-items)) l.made.items
