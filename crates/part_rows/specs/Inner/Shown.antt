-- Cells with what their rows have in common. Private functions need it; no public contract cites it.
use Rattle.std.specs.Prelude.{◌≡◌, ◌↔◌, ℕ, ◌<◌, ◌≤◌, ◌^◌, All, Bool, true, List, Some, length, map, slice_get, slice_index}
use Rattle.cubes.specs.Field.{characters}
use Rattle.cubes.specs.Symbol.{bit}
use Rattle.part_machines.specs.Cells.{AreCells, IsCellField}
use Rattle.part_machines.specs.Which.{own_bits}
use Rattle.part_machines.specs.declared.fields.Field.{Field}
use Rattle.part_rows.specs.declared.shown.Bits.{Bits}
use Rattle.part_rows.specs.declared.shown.Shown.{Shown}
use Rattle.state_codes.specs.declared.Codes.{Codes}
use Rattle.state_codes.specs.declared.which.Which.{Which}

-- the field has so many characters, and 0 as the value of a dash
pub record IsField (places : ℕ) (field : Field) : Type 0 where
  pub care_below : field.care < 2 ^ places
  pub value_in_care : (k : ℕ) → bit field.value k ≡ true → bit field.care k ≡ true

-- the word has the bits of the list, the first of them as its lowest bit
pub record HasBits (list : List Bool) (bits : Bits) : Type 0 where
  pub count : bits.count ≡ length list
  pub word : (b : ℕ) → (bit bits.word b ≡ true) ↔ (slice_get list b ≡ Some true)

-- the cell of its least state, with its field and the part's bits in the code of the state
pub record IsShown (code : Codes) (p latches : List ℕ) (which : Which) (cell : Shown) : Type 0 where
  pub state : cell.state < length p
  pub block : cell.block ≡ slice_index p cell.state
  pub field : IsField (length latches) cell.field
  pub of_cell : IsCellField p code.words latches cell.state (characters (length latches) cell.field.care cell.field.value)
  pub bits : HasBits (map (bit (slice_index code.words cell.state)) (own_bits code which)) cell.bits
  pub few : cell.bits.count ≤ 64

-- the cells in the order of their least states
pub record AreShown (code : Codes) (p latches : List ℕ) (which : Which) (cells : List Shown) : Type 0 where
  pub each : All (IsShown code p latches which) cells
  pub cells_are : AreCells p code.words latches (map (λ cell. cell.state) cells)
