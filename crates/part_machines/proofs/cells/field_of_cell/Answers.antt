use Rattle.std.proofs.Common.{◌<◌, ◌^◌, ℕ, All, List, [], subst, sym}
use Rattle.part_machines.specs.CellLists.{AreValuesOf}
use Rattle.part_machines.proofs.Listing.{all_values, field_in_block, no_values, value_added_at, values_below}
use Rattle.part_machines.proofs.cells.field_of_cell.Goals as goal

pub loop-other-init : goal.loop-other-init
loop-other-init c =
    subst (λ (shown : List ℕ). AreValuesOf [] c.args.cell.block shown) (sym c.new-shown.ensures.items) (no_values c.args.cell.block)

pub loop-other-preserved : goal.loop-other-preserved
loop-other-preserved c =
    value_added_at c.args.cells.now c.loop-other.other-index _ c.args.cell.block c.loop-other.shown.items c.add_value.new.shown.items c.loop-other-test.true
    c.loop-other.invariant c.in_ok-add_value.ensures

pub field_of-requires : goal.field_of-requires
field_of-requires c =
    let are : AreValuesOf c.args.cells.now c.args.cell.block c.loop-other.shown.items =
    all_values c.args.cells.now c.loop-other.other-index c.args.cell.block c.loop-other.shown.items c.loop-other-test.false c.loop-other.invariant in
    record {
      width = c.requires.width;
      shown =
          subst (λ (shown : List ℕ). All (λ (other : ℕ). other < 2 ^ c.args.width) shown) (sym c.deref.ensures.value)
          (values_below c.args.cells.now c.args.cell.block (2 ^ c.args.width) c.loop-other.shown.items are c.requires.cells);
      value = c.requires.cell;
    }

pub returns : goal.returns
returns c =
    let are : AreValuesOf c.args.cells.now c.args.cell.block c.loop-other.shown.items =
    all_values c.args.cells.now c.loop-other.other-index c.args.cell.block c.loop-other.shown.items c.loop-other-test.false c.loop-other.invariant in
    field_in_block c.args.cells.now c.args.cell c.args.width c.deref.result.now c.field_of.result
    (subst (λ (shown : List ℕ). AreValuesOf c.args.cells.now c.args.cell.block shown) (sym c.deref.ensures.value) are) c.field_of.ensures
