use Rattle.std.proofs.Common.{refl}
use Rattle.part_rows.proofs.Made.{row_made_of}
use Rattle.part_rows.proofs.part_row.part_row.Goals as goal

pub returns : goal.returns
returns c W codes lawful shown =
    row_made_of W codes c.args.p.now c.args.set.now c.args.which c.args.cell.now c.args.row.now _ c.given_by-given.result c.as_slice.result.now c.as_slice-2.result.now
    c.as_slice.ensures c.as_slice-2.ensures lawful shown c.requires.states c.narrowed.ensures.width c.narrowed.ensures.field refl c.next_block.ensures refl refl
    c.given_by-given.ensures.part c.given_by-given.ensures.outputs
