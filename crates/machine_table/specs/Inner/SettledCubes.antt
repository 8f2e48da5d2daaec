-- Cubes of whose symbols each row of a state holds all or none. Private functions need it; no public contract cites it.
use Rattle.std.specs.Prelude.{ℕ, All, List}
use Rattle.cubes.specs.declared.cube.Cube.{Cube}
use Rattle.cubes.specs.Cube.{HoldsNumber}
use Rattle.kiss_file.specs.declared.file.KissFile.{KissFile}
use Rattle.kiss_file.specs.declared.file.KissRow.{KissRow}
use Rattle.machine_table.specs.declared.pieces.Piece.{Piece}
use Rattle.machine_table.specs.Pieces.{IsHeldByPiece, IsPiece}
use Rattle.state_pairs.specs.RowLabels.{IsOfState}

-- the other cube holds all symbols of the cube or none
abbrev pub IsAllOrNone : Cube → Cube → Type 0
IsAllOrNone cube other = (y z : ℕ) → HoldsNumber cube y → HoldsNumber cube z → HoldsNumber other y → HoldsNumber other z

-- each row of the state holds all symbols of the cube or none
abbrev pub IsSettledIn : KissFile → ℕ → Cube → Type 0
IsSettledIn F s cube = (row : KissRow) → IsOfState F s row → IsAllOrNone cube row.cube

-- the second list has the pieces of the first, and pieces that hold all symbols of the cube
pub record AddsPieces (F : KissFile) (s : ℕ) (cube : Cube) (old more : List Piece) : Type 0 where
  pub right : All (IsPiece F s) old → All (IsPiece F s) more
  pub kept : (x : ℕ) → IsHeldByPiece old x → IsHeldByPiece more x
  pub each : (x : ℕ) → HoldsNumber cube x → IsHeldByPiece more x
