use Rattle.std.proofs.Common.{ℕ, ◌≡◌, ◌<◌, All, Some, get_or, slice_get}
use Rattle.cubes.specs.Cube.{HoldsNumber}
use Rattle.kiss_file.specs.declared.file.KissRow.{KissRow}
use Rattle.machine_table.specs.Pieces.{IsHeldByPiece, IsPiece}
use Rattle.machine_table.proofs.machine.Machine.pieces_of_rows.Given as goal

abbrev pub invariant-loop-number : goal.invariant-loop-number
invariant-loop-number l = record {
  right : All (IsPiece l.self l.s) l.pieces.items;
  each : (k d : ℕ) (row : KissRow) → k < l.number-index → slice_get l.self.rows (get_or l.numbers k d) ≡ Some row
      → (x : ℕ) → HoldsNumber row.cube x → IsHeldByPiece l.pieces.items x;
}
