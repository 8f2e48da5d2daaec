-- Cells and fields as numbers.
use Rattle.std.specs.Prelude.{◌≡◌, ◌↔◌, ◌⊎◌, ◌+◌, ◌<◌, ◌^◌, ℕ, All, Bool, true, Contains, List, [], ◌∷◌, ◌++◌, length, map, slice_index}
use Rattle.std.specs.List.Sorted.{IsStrictlyIncreasing}
use Rattle.cubes.specs.Field.{characters}
use Rattle.cubes.specs.Symbol.{bit, symbol_of}
use Rattle.part_machines.specs.declared.cells.Cell.{Cell}
use Rattle.part_machines.specs.declared.fields.Field.{Field}
use Rattle.part_machines.specs.Cells.{AreCells, IsCellField, IsLeastOfCell, values_of}
use Rattle.part_machines.specs.Fields.{IsFieldOf}

-- the number has one bit, which is the highest of the other's, or both are 0
pub record IsLeadOf (number lead : ℕ) : Type 0 where
  pub none : number ≡ 0 → lead ≡ 0
  pub some : 0 < number → (k : ℕ) × (lead ≡ 2 ^ k) × (lead < number + 1) × (number < 2 ^ (k + 1))

-- some of the numbers has this symbol
pub record IsSymbolAmong (shown : List ℕ) (width : ℕ) (symbol : List Bool) : Type 0 where
  pub number : ℕ
  pub among : Contains shown number
  pub spelled : symbol_of width number ≡ symbol

-- the field of a number's symbol among those of the shown ones
pub record IsFieldAmong (shown : List ℕ) (value width : ℕ) (field : Field) : Type 0 where
  pub field_is : IsFieldOf (IsSymbolAmong shown width) (symbol_of width value) (characters width field.care field.value)
  pub care_below : field.care < 2 ^ width
  pub value_below : field.value < 2 ^ width
  pub value_in_care : (k : ℕ) → (bit field.value k ≡ true) → bit field.care k ≡ true

-- there is a cell of that block and that value
pub record IsListed (cells : List Cell) (block value : ℕ) : Type 0 where
  pub cell : Cell
  pub among : Contains cells cell
  pub of_block : cell.block ≡ block
  pub has_value : cell.value ≡ value

-- the cell was added at the end, unless one of its block and value was there
abbrev pub IsAdded : List Cell → Cell → List Cell → Type 0
IsAdded old cell new =
    (IsListed old cell.block cell.value × (new ≡ old)) ⊎ ((IsListed old cell.block cell.value → ⊥) × (new ≡ old ++ cell ∷ []))

-- the value of the cell was added at the end, if the cell is of the block
abbrev pub IsValueAdded : List ℕ → Cell → ℕ → List ℕ → Type 0
IsValueAdded old cell block new = ((cell.block ≡ block) × (new ≡ old ++ cell.value ∷ [])) ⊎ ((cell.block ≡ block → ⊥) × (new ≡ old))

-- the numbers are the values of those cells that are of the block
abbrev pub AreValuesOf : List Cell → ℕ → List ℕ → Type 0
AreValuesOf cells block shown =
    (value : ℕ) → Contains shown value ↔ ((cell : Cell) × Contains cells cell × (cell.block ≡ block) × (cell.value ≡ value))

-- the cell is that of its least state
pub record IsCellAt (p words bits : List ℕ) (cell : Cell) : Type 0 where
  pub least : IsLeastOfCell p words bits cell.state
  pub block : cell.block ≡ slice_index p cell.state
  pub value : symbol_of (length bits) cell.value ≡ values_of words bits cell.state
  pub below : cell.value < 2 ^ length bits

-- the cells of the first states, in the order of their least states
pub record AreCellsOf (p words bits : List ℕ) (count : ℕ) (cells : List Cell) : Type 0 where
  pub right : All (IsCellAt p words bits) cells
  pub each : (s : ℕ) → s < count → IsLeastOfCell p words bits s → Contains (map (λ cell. cell.state) cells) s
  pub below : All (λ cell. cell.state < count) cells
  pub ascend : IsStrictlyIncreasing (map (λ cell. cell.state) cells)

-- some cell of that block has the symbol
pub record IsSymbolInBlock (cells : List Cell) (block width : ℕ) (symbol : List Bool) : Type 0 where
  pub cell : Cell
  pub among : Contains cells cell
  pub of_block : cell.block ≡ block
  pub spelled : symbol_of width cell.value ≡ symbol

-- the field of a cell among those of its block
pub record IsFieldOfCell (cells : List Cell) (cell : Cell) (width : ℕ) (field : Field) : Type 0 where
  pub field_is : IsFieldOf (IsSymbolInBlock cells cell.block width) (symbol_of width cell.value) (characters width field.care field.value)
  pub care_below : field.care < 2 ^ width
  pub value_below : field.value < 2 ^ width
  pub value_in_care : (k : ℕ) → (bit field.value k ≡ true) → bit field.care k ≡ true

-- the listed cells are the cells of the states, and the field of one of them is that of its least state
pub record AreCellsListed (p words bits : List ℕ) (cells : List Cell) : Type 0 where
  pub cells_are : AreCells p words bits (map (λ cell. cell.state) cells)
  pub field_is : (cell : Cell) (field : Field) → Contains cells cell → IsFieldOfCell cells cell (length bits) field
      → IsCellField p words bits cell.state (characters (length bits) field.care field.value)

abbrev pub ListedAreCells : Type 0
ListedAreCells = (p words bits : List ℕ) (cells : List Cell) → AreCellsOf p words bits (length p) cells → AreCellsListed p words bits cells
