-- Two states at all symbols, each symbol given by its number.
use Rattle.std.specs.Prelude.{ℕ, ◌≡◌, ◌<◌, ◌^◌, Bool, IfSome, List, Option, slice_index}
use Rattle.cubes.specs.Symbol.{bit, symbol_of}
use Rattle.kiss_file.specs.declared.file.KissFile.{KissFile}
use Rattle.kiss_file.specs.Machine.{next, out, output_bit}
use Rattle.state_rows.specs.Least.{IsMetBy}

-- the relation holds between the next states at the symbol with that number
abbrev pub GoInto : (ℕ → ℕ → Type 0) → KissFile → (s t x : ℕ) → Type 0
GoInto R F s t x = R (next F s (symbol_of F.inputs x)) (next F t (symbol_of F.inputs x))

-- some symbol leads the two states to these
abbrev pub IsImage : KissFile → (s t u v : ℕ) → Type 0
IsImage F s t u v = (x : ℕ) × (x < 2 ^ F.inputs) × (next F s (symbol_of F.inputs x) ≡ u) × (next F t (symbol_of F.inputs x) ≡ v)

-- the outputs are equal there
abbrev pub AgreeAt : KissFile → (s t x : ℕ) → Type 0
AgreeAt F s t x = out F s (symbol_of F.inputs x) ≡ out F t (symbol_of F.inputs x)

-- one output is equal there
abbrev pub AgreeInBit : ℕ → KissFile → (s t x : ℕ) → Type 0
AgreeInBit b F s t x = output_bit F s (symbol_of F.inputs x) b ≡ output_bit F t (symbol_of F.inputs x) b

-- the predicate holds at each symbol of that many inputs
abbrev pub AtEachSymbol : (inputs : ℕ) → (ℕ → Type 0) → Type 0
AtEachSymbol inputs P = (x : ℕ) → x < 2 ^ inputs → P x

-- the least symbol of that many inputs at which the predicate does not hold
pub record IsFirstWithout (inputs : ℕ) (P : ℕ → Type 0) (x : ℕ) : Type 0 where
  pub within : x < 2 ^ inputs
  pub without : ¬ P x
  pub before : (y : ℕ) → y < x → P y

-- the words of two states have the same bit at a place
abbrev pub HaveOneBit : List ℕ → (at : ℕ) → (s t : ℕ) → Type 0
HaveOneBit words at s t = bit (slice_index words s) at ≡ bit (slice_index words t) at

-- some output differs there
abbrev pub DifferInBit : KissFile → (s t x : ℕ) → Type 0
DifferInBit F s t x = (x < 2 ^ F.inputs) × ((b : ℕ) × (b < F.outputs) × (AgreeInBit b F s t x → ⊥))

-- A search of the first `count` outputs found a symbol at which some output differs. Where the search found none, these
-- outputs agree at all symbols. A least symbol, if that is asked for, is at or below each at which one of these differs.
pub record IsFoundInBits (F : KissFile) (s t count : ℕ) (least : Bool) (found : Option ℕ) : Type 0 where
  pub some : IfSome found (DifferInBit F s t)
  pub met : (b y : ℕ) → b < count → y < 2 ^ F.inputs → (AgreeInBit b F s t y → ⊥) → IsMetBy found least y
