use Rattle.std.proofs.Common.{List}
use Rattle.part_rows.specs.Inner.Shown.{IsShown}
use Rattle.part_rows.specs.declared.shown.Shown.{Shown}
use Rattle.part_rows.proofs.Joined.{item_has, rows_joined}
use Rattle.part_rows.proofs.rows.rows_of_part.Goals as goal

pub cell_rows-requires-clause-shown : goal.cell_rows-requires-clause-shown
cell_rows-requires-clause-shown c = (
  c.args.codes.now,
  item_has (IsShown c.args.codes.now c.args.p.now c.args.set.now.latches c.args.which) c.in_ok-cells.cells.items c.deref-cell-items.result.now c.loop-cell.cell-index _
      c.in_ok-cells.ensures.each c.deref-cell-items.ensures.value c.loop-cell-test.true,
)

pub loop-cell-preserved : goal.loop-cell-preserved
loop-cell-preserved c =
    let items : List Shown = c.deref-cell-items.result.now in
    let none : Shown = record { state = 0; block = 0; field = record { care = 0; value = 0 }; bits = record { count = 0; word = 0 } } in
    rows_joined c.args.machine.now c.args.codes.now c.args.p.now c.args.set.now c.args.which items c.loop-cell.cell-index none c.loop-cell.rows.items c.in_ok-own.own.items
    c.append.new.self.items c.loop-cell-test.true c.loop-cell.invariant
    (c.in_ok-own.ensures c.args.codes.now
    (item_has (IsShown c.args.codes.now c.args.p.now c.args.set.now.latches c.args.which) c.in_ok-cells.cells.items items c.loop-cell.cell-index none
    c.in_ok-cells.ensures.each c.deref-cell-items.ensures.value c.loop-cell-test.true))
    c.in_ok-append.ensures.items
