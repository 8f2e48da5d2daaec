use Rattle.std.proofs.Common.{take}
use Rattle.part_machines.specs.CellLists.{AreValuesOf}
use Rattle.part_machines.proofs.cells.field_of_cell.Given as goal

abbrev pub invariant-loop-other : goal.invariant-loop-other
invariant-loop-other l = AreValuesOf (take l.other-index l.cells) l.cell.block l.shown.items
