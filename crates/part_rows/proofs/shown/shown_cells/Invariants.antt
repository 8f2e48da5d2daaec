-- The cells so far.
use Rattle.std.proofs.Common.{◌≡◌, All, map, take}
use Rattle.part_machines.specs.declared.cells.Cell.{Cell}
use Rattle.part_rows.specs.Inner.Shown.{IsShown}
use Rattle.part_rows.specs.declared.shown.Shown.{Shown}
use Rattle.part_rows.proofs.shown.shown_cells.Given as goal

abbrev pub invariant-loop-cell : goal.invariant-loop-cell
invariant-loop-cell l = record {
  each : All (IsShown l.codes l.p l.set.latches l.which) l.shown.items;
  states : map (λ (cell : Shown). cell.state) l.shown.items ≡ map (λ (cell : Cell). cell.state) (take l.cell-index l.cell-items);
}
