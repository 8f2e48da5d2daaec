use Rattle.part_machines.specs.CellLists.{AreCellsOf}
use Rattle.part_machines.proofs.cells.cells_of.Given as goal

abbrev pub invariant-loop-s : goal.invariant-loop-s
invariant-loop-s l = AreCellsOf l.p l.words l.bits l.s l.cells.items
