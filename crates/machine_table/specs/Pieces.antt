-- What a machine does at the symbols of a cube, each symbol given by its number.
use Rattle.std.specs.Prelude.{ℕ, ◌≡◌, ◌<◌, ◌^◌, Bool, Contains, List, Some, length}
use Rattle.cubes.specs.Cube.{HoldsNumber}
use Rattle.cubes.specs.Symbol.{symbol_of, lowest_bits}
use Rattle.kiss_file.specs.declared.file.KissFile.{KissFile}
use Rattle.kiss_file.specs.declared.file.KissRow.{KissRow}
use Rattle.kiss_file.specs.LawfulFile.{IsLawfulRow}
use Rattle.kiss_file.specs.Machine.{given_bit, next, out, output_bit}
use Rattle.machine_table.specs.declared.pieces.Piece.{Piece}
use Rattle.machine_table.specs.declared.open_part.Missing.{Missing}
use Rattle.machine_table.specs.OpenEntries.{Says}
pub use Rattle.state_pairs.specs.Pairs.{IsImage}

-- the piece's next state and outputs are the machine's at each symbol that it holds
pub record IsPiece (F : KissFile) (s : ℕ) (piece : Piece) : Type 0 where
  pub width : piece.cube.width ≡ F.inputs
  pub next_state : (x : ℕ) → x < 2 ^ F.inputs → HoldsNumber piece.cube x → next F s (symbol_of F.inputs x) ≡ piece.next
  pub outputs : (x : ℕ) → x < 2 ^ F.inputs → HoldsNumber piece.cube x → out F s (symbol_of F.inputs x) ≡ lowest_bits F.outputs piece.outputs
  pub no_more : piece.outputs < 2 ^ F.outputs

-- some piece holds the symbol of that number
abbrev pub IsHeldByPiece : List Piece → ℕ → Type 0
IsHeldByPiece pieces x = (piece : Piece) × Contains pieces piece × HoldsNumber piece.cube x

-- the row is of the state, and the parts that it says are the machine's at each symbol that it holds
pub record IsRightRow (F : KissFile) (s : ℕ) (row : KissRow) : Type 0 where
  pub lawful : IsLawfulRow F.inputs F.outputs (length F.states) row
  pub state : row.from ≡ s
  pub next_state : (x t : ℕ) → x < 2 ^ F.inputs → HoldsNumber row.cube x → row.to ≡ Some t → next F s (symbol_of F.inputs x) ≡ t
  pub output : (x b : ℕ) (value : Bool) → x < 2 ^ F.inputs → HoldsNumber row.cube x → given_bit b row ≡ Some value → output_bit F s (symbol_of F.inputs x) b ≡ value

-- some row that holds the symbol of that number says the part
abbrev pub IsSaidBy : List KissRow → ℕ → Missing → Type 0
IsSaidBy rows x part = (row : KissRow) × Contains rows row × HoldsNumber row.cube x × Says part row
