-- Rows with one cube hold the same symbols.
use Rattle.std.proofs.Common.{ℕ, ap, sym, ◌∙◌, bit_and}
use Rattle.cubes.specs.Cube.{HoldsNumber}
use Rattle.cubes.specs.Laws.Held.{held_from_mask, mask_from_held}
use Rattle.kiss_file.specs.declared.file.KissRow.{KissRow}
use Rattle.state_rows.specs.Columns.{HaveOneCube}

-- a row with the cube of another holds what that holds
pub held_by_like : (row other : KissRow) (y : ℕ) → HaveOneCube row other → HoldsNumber row.cube y → HoldsNumber other.cube y
held_by_like row other y cubes held =
    held_from_mask other.cube y (ap (bit_and y) (sym cubes.care) ∙ mask_from_held row.cube y held ∙ cubes.value)
