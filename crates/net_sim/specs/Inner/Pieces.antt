-- Wide rows as lists of cubes: one for each piece of 32 characters, and one for the characters that are left.
use Rattle.std.specs.Prelude.{◌≡◌, ℕ, ◌-◌, ◌^◌, ◌<◌, ◌==◌, ◌&&◌, true, false, ⊤, min, All, Bool, List, [], ◌∷◌, ◌++◌, Option, Some, None, length, take, drop}
use Rattle.std.specs.List.{list_any}
use Rattle.cubes.specs.declared.cube.Cube.{Cube}
use Rattle.cubes.specs.Cube.{holds}
use Rattle.cubes.specs.Symbol.{number_of, symbol_of}
use Rattle.net_core.specs.declared.gate_order.NumberedGate.{NumberedGate}
use Rattle.net_core.specs.Step.{row_holds}

-- each cube holds its piece of the bits, and there are no other bits
abbrev pub pieces_hold : List Cube → List Bool → Bool
pieces_hold [] bits = length bits == 0
pieces_hold (cube ∷ cubes) bits = holds cube (take 32 bits) && pieces_hold cubes (drop 32 bits)

-- the cubes are as wide as the pieces of this number of characters
abbrev pub HaveWidths : ℕ → List Cube → Type 0
HaveWidths count [] = count ≡ 0
HaveWidths count (cube ∷ cubes) = (0 < count) × (cube.width ≡ min count 32) × HaveWidths (count - 32) cubes

-- the pieces of a row hold what the row holds; a row without pieces holds nothing
abbrev pub ArePieces : List ℕ → Option (List Cube) → Type 0
ArePieces row None = (symbol : List Bool) → length symbol ≡ length row → row_holds row symbol ≡ false
ArePieces row (Some cubes) = HaveWidths (length row) cubes × ((symbol : List Bool) → length symbol ≡ length row → pieces_hold cubes symbol ≡ row_holds row symbol)

-- the lists of cubes are as wide as the gate, and hold the symbols that its rows hold
pub record IsWide (gate : NumberedGate) (rows : List (List Cube)) : Type 0 where
  pub widths : All (HaveWidths (length gate.inputs.items)) rows
  pub held : (symbol : List Bool) → length symbol ≡ length gate.inputs.items → list_any (λ cubes. pieces_hold cubes symbol) rows ≡ list_any (λ row. row_holds row symbol) gate.rows

-- the numbers of the pieces of the bits, and 0 where there are no more bits
abbrev pub AreNumbersOf : List Bool → List ℕ → Type 0
AreNumbersOf bits [] = length bits ≡ 0
AreNumbersOf bits (number ∷ numbers) = (number ≡ number_of (take 32 bits)) × AreNumbersOf (drop 32 bits) numbers

-- each number is one of a symbol of its cube
abbrev pub AreBelow : List Cube → List ℕ → Type 0
AreBelow [] numbers = ⊤
AreBelow (cube ∷ cubes) [] = ⊥
AreBelow (cube ∷ cubes) (number ∷ numbers) = (number < 2 ^ cube.width) × AreBelow cubes numbers

-- each cube holds the symbol of its number
abbrev pub numbers_hold : List Cube → List ℕ → Bool
numbers_hold [] numbers = true
numbers_hold (cube ∷ cubes) [] = false
numbers_hold (cube ∷ cubes) (number ∷ numbers) = holds cube (symbol_of cube.width number) && numbers_hold cubes numbers

-- The cubes are those of the characters before the rest: with the cubes of the rest they are those of the row. The row
-- holds nothing if the rest does.
pub record HasCut (row rest : List ℕ) (cubes : List Cube) : Type 0 where
  pub widths : (others : List Cube) → HaveWidths (length rest) others → HaveWidths (length row) (cubes ++ others)
  pub held : (others : List Cube) → ((bits : List Bool) → length bits ≡ length rest → pieces_hold others bits ≡ row_holds rest bits) → (symbol : List Bool) → length symbol ≡ length row → pieces_hold (cubes ++ others) symbol ≡ row_holds row symbol
  pub none : ((bits : List Bool) → length bits ≡ length rest → row_holds rest bits ≡ false) → (symbol : List Bool) → length symbol ≡ length row → row_holds row symbol ≡ false

-- the numbers are those of the bits before the rest: with the numbers of the rest they are those of the bits
abbrev pub HaveNumbered : List Bool → List Bool → List ℕ → Type 0
HaveNumbered bits rest numbers = (others : List ℕ) → AreNumbersOf rest others → AreNumbersOf bits (numbers ++ others)
