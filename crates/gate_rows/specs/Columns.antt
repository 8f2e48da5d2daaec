-- The columns of a gate: the inputs that it reads, in order, and then the bits of a word that it reads.
use Rattle.std.specs.Prelude.{◌≡◌, ℕ, ◌+◌, ◌<◌, ◌^◌, ◌↔◌, ◌++◌, Bool, false, List, length, map, slice_index_or}
use Rattle.cover_terms.specs.declared.term.Term.{Term}
use Rattle.cover_terms.specs.Term.{FitsWidth, Holds}
use Rattle.cubes.specs.declared.cube.Cube.{Cube}
use Rattle.cubes.specs.Cube.{HoldsNumber}
use Rattle.cubes.specs.Symbol.{bit, symbol_of, lowest_bits}

-- input a of a symbol
abbrev pub input_of : List Bool → ℕ → Bool
input_of x a = slice_index_or x a false

-- what a gate reads for a symbol and a word: the read inputs in order, then the read bits of the word
abbrev pub column_values : List ℕ → List ℕ → List Bool → ℕ → List Bool
column_values inputs places x word = map (input_of x) inputs ++ map (bit word) places

-- the number of these columns
abbrev pub column_count : List ℕ → List ℕ → ℕ
column_count inputs places = length inputs + length places

-- these values are read for some symbol of the cube
abbrev pub IsReadIn : List ℕ → List ℕ → Cube → ℕ → List Bool → Type 0
IsReadIn inputs places cube word read =
    (x : ℕ) × (x < 2 ^ cube.width) × HoldsNumber cube x × (read ≡ column_values inputs places (symbol_of cube.width x) word)

-- the term holds exactly the values that are read for the symbols of the cube
pub record IsTermOf (inputs places : List ℕ) (cube : Cube) (word : ℕ) (t : Term) : Type 0 where
  pub fits : FitsWidth (column_count inputs places) t
  pub holds : (v : ℕ) → Holds t v ↔ IsReadIn inputs places cube word (lowest_bits (column_count inputs places) v)
