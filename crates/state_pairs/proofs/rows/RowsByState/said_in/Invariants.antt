use Rattle.std.proofs.Common.{ℕ, ◌≡◌, ◌<◌, IsNone, Some, get_or, slice_get}
use Rattle.cubes.specs.Cube.{HoldsNumber}
use Rattle.kiss_file.specs.declared.file.KissRow.{KissRow}
use Rattle.state_pairs.proofs.rows.RowsByState.said_in.Given as goal

abbrev pub invariant-loop-number : goal.invariant-loop-number
invariant-loop-number g l =
    (k d : ℕ) (row : KissRow) → k < l.number-index → slice_get l.self.rows (get_or l.number-items k d) ≡ Some row
    → (y : ℕ) → HoldsNumber l.cube y → HoldsNumber row.cube y → IsNone (g.Q.Question.said l.question row)
