-- The machine of a file (source: Hartmanis and Stearns, the machine of Mealy). A symbol is a list of bits, one for each
-- input.
use Rattle.std.specs.Prelude.{◌≡◌, ◌≢◌, ℕ, ◌<◌, ◌==◌, ◌⊎◌, Bool, true, false, ◌&&◌, Contains, IsNone, IsSome, List, [], ◌∷◌, Option, Some, filter, length, map, slice_get, slice_index_or}
use Rattle.std.specs.List.{filter_map, range_with_len}
use Rattle.cubes.specs.Cube.{holds, Holds, Meets}
use Rattle.cubes.specs.Field.{character}
use Rattle.kiss_file.specs.declared.fill.Fill.{Fill}
use Rattle.kiss_file.specs.declared.fill.Fill.TheVariants.{Hold}
use Rattle.kiss_file.specs.declared.file.KissFile.{KissFile}
use Rattle.kiss_file.specs.declared.file.KissRow.{KissRow}
use Rattle.kiss_file.specs.LawfulFile.{IsLawful}

-- the rows of a state that hold a symbol, in order
abbrev pub rows_at : KissFile → ℕ → List Bool → List KissRow
rows_at F s x = filter (λ row. (row.from == s) && holds row.cube x) F.rows

-- the bit that a row gives at an output, if it gives one
abbrev pub given_bit : ℕ → KissRow → Option Bool
given_bit b row = character row.care row.value b

-- the next state: the one that a row of the state that holds the symbol names, and the state itself where none names one
abbrev pub next : KissFile → ℕ → List Bool → ℕ
next F s x = slice_index_or (filter_map (λ row. row.to) (rows_at F s x)) 0 s

-- an output: the bit that such a row gives, and 0 where none gives one
abbrev pub output_bit : KissFile → ℕ → List Bool → ℕ → Bool
output_bit F s x b = slice_index_or (filter_map (given_bit b) (rows_at F s x)) 0 false

-- the outputs in order
abbrev pub out : KissFile → ℕ → List Bool → List Bool
out F s x = map (output_bit F s x) (range_with_len 0 F.outputs)

-- the outputs at each symbol of a word, from a state on
abbrev pub answers : KissFile → ℕ → List (List Bool) → List (List Bool)
answers F s [] = []
answers F s (x ∷ word) = out F s x ∷ answers F (next F s x) word

-- a row of a state that holds a symbol
pub record IsRowAt (F : KissFile) (s : ℕ) (x : List Bool) (row : KissRow) : Type 0 where
  pub among : Contains F.rows row
  pub from : row.from ≡ s
  pub held : Holds row.cube x

-- the rows name two next states
abbrev pub NameTwo : KissRow → KissRow → Type 0
NameTwo row other = (t u : ℕ) × (row.to ≡ Some t) × (other.to ≡ Some u) × (t ≢ u)

-- the one row gives 0 at an output at which the other gives 1
abbrev pub GiveBoth : KissRow → KissRow → Type 0
GiveBoth row other = (b : ℕ) × (given_bit b row ≡ Some false) × (given_bit b other ≡ Some true)

-- two rows of one state share a symbol, and name two next states or give 0 and 1 at one output
abbrev pub Conflicting : KissFile → Type 0
Conflicting F = (row other : KissRow) × Contains F.rows row × Contains F.rows other × (row.from ≡ other.from) × Meets row.cube other.cube
    × (NameTwo row other ⊎ GiveBoth row other)

-- for a state and a symbol some row names a next state, and some row gives a bit at each output
pub record IsSpecifiedAt (F : KissFile) (s : ℕ) (x : List Bool) : Type 0 where
  pub next : (row : KissRow) × IsRowAt F s x row × IsSome row.to
  pub outputs : (b : ℕ) → b < F.outputs → (row : KissRow) × IsRowAt F s x row × IsSome (given_bit b row)

-- nothing is left open
abbrev pub Specified : KissFile → Type 0
Specified F = (s : ℕ) (x : List Bool) → s < length F.states → length x ≡ F.inputs → IsSpecifiedAt F s x

-- the file has a machine with that fill
pub record Accepted (F : KissFile) (fill : Fill) : Type 0 where
  pub no_conflict : Conflicting F → ⊥
  pub filled : Specified F ⊎ (fill ≡ Hold)

-- what rows say of a state and a symbol is the machine's next state and output; what none says is the state itself and 0
pub record IsSaidByRows (F : KissFile) (s : ℕ) (x : List Bool) : Type 0 where
  pub next_state : (row : KissRow) (t : ℕ) → IsRowAt F s x row → row.to ≡ Some t → next F s x ≡ t
  pub no_next : ((row : KissRow) → IsRowAt F s x row → IsNone row.to) → next F s x ≡ s
  pub output : (row : KissRow) (b : ℕ) (value : Bool) → b < F.outputs → IsRowAt F s x row → given_bit b row ≡ Some value
      → slice_get (out F s x) b ≡ Some value
  pub no_output : (b : ℕ) → b < F.outputs → ((row : KissRow) → IsRowAt F s x row → IsNone (given_bit b row)) → slice_get (out F s x) b ≡ Some false

-- it does not matter which of several rows is asked
abbrev pub RowsDecide : Type 0
RowsDecide = (F : KissFile) (s : ℕ) (x : List Bool) → (Conflicting F → ⊥) → IsSaidByRows F s x

-- the machine of a lawful file never leaves its states
abbrev pub NextIsAState : Type 0
NextIsAState = (F : KissFile) (s : ℕ) (x : List Bool) → IsLawful F → s < length F.states → next F s x < length F.states
