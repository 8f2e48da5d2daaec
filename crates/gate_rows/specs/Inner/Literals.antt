-- The characters of a gate's columns, and the numbers that they allow.
use Rattle.std.specs.Prelude.{◌≡◌, ℕ, ◌+◌, ◌-◌, ◌^◌, ◌<◌, ◌↔◌, ◌++◌, Bool, List, Option, Some, length, map, slice_get}
use Rattle.cover_terms.specs.declared.term.Term.{Term}
use Rattle.cover_terms.specs.Term.{Holds}
use Rattle.cubes.specs.declared.cube.Cube.{Cube}
use Rattle.cubes.specs.Field.{character}
use Rattle.cubes.specs.Symbol.{bit}

-- the character of a cube for an input: input 0 is the first character
abbrev pub input_character : Cube → ℕ → Option Bool
input_character cube a = character cube.care cube.value (cube.width - 1 - a)

-- the character of a bit of a word
abbrev pub code_character : ℕ → ℕ → Option Bool
code_character word c = Some (bit word c)

-- the characters of the read inputs, and then the read bits of a word
abbrev pub columns_of : List ℕ → List ℕ → Cube → ℕ → List (Option Bool)
columns_of inputs places cube word = map (input_character cube) inputs ++ map (code_character word) places

-- the number has each bit that a character gives, where the first character is that of column n, the bit of value 2
-- ^ n
abbrev pub AllowsFrom : ℕ → List (Option Bool) → ℕ → Type 0
AllowsFrom n columns v = (c : ℕ) (wanted : Bool) → slice_get columns c ≡ Some (Some wanted) → bit v (n + c) ≡ wanted

-- a term with these characters
pub record HasCharacters (columns : List (Option Bool)) (t : Term) : Type 0 where
  pub fits : t.care < 2 ^ length columns
  pub holds : (v : ℕ) → Holds t v ↔ AllowsFrom 0 columns v
