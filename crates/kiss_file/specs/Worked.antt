-- A file of three rows, the cubes of which are given by their characters.
use Rattle.std.specs.Prelude.{ℕ, ◌≡◌, Bool, true, false, List, [], ◌∷◌, Option, Some, None, codes}
use Rattle.cubes.specs.declared.cube.Cube.{Cube}
use Rattle.cubes.specs.Cube.{field_of}
use Rattle.kiss_file.specs.declared.file.KissFile.{KissFile}
use Rattle.kiss_file.specs.declared.file.KissRow.{KissRow}

-- the cubes 0-, 10 and -1
pub record AreCubes (first second third : Cube) : Type 0 where
  pub first_is : field_of first ≡ Some false ∷ None ∷ []
  pub second_is : field_of second ≡ Some true ∷ Some false ∷ []
  pub third_is : field_of third ≡ None ∷ Some true ∷ []

-- so it is for these cubes
abbrev pub ForCubes : (Cube → Cube → Cube → Type 0) → Type 0
ForCubes P = (first second third : Cube) → AreCubes first second third → P first second third

abbrev pub row : Cube → ℕ → Option ℕ → ℕ → ℕ → KissRow
row cube from to care value = record { cube = cube; from = from; to = to; care = care; value = value }

-- the row `0- a b 10`, the row `10 a b 1-` and the row `-1 a a 1-`
abbrev pub first_row : Cube → KissRow
first_row cube = row cube 0 (Some 1) 3 1

abbrev pub second_row : Cube → KissRow
second_row cube = row cube 0 (Some 1) 1 1

abbrev pub third_row : Cube → KissRow
third_row cube = row cube 0 (Some 0) 1 1

-- a file of the states a and b, which starts at b, with these rows
abbrev pub file : List KissRow → KissFile
file rows =
    record {
      inputs = 2;
      outputs = 2;
      reset = 1;
      states = codes "a" ∷ codes "b" ∷ [];
      rows = rows;
      input_names = None;
      output_names = None;
    }

-- the file of all three
abbrev pub whole : Cube → Cube → Cube → KissFile
whole first second third = file (first_row first ∷ second_row second ∷ third_row third ∷ [])

-- the symbols 00, 01 and 10, whose numbers are 0, 1 and 2
abbrev pub symbol_0 : List Bool
symbol_0 = false ∷ false ∷ []

abbrev pub symbol_1 : List Bool
symbol_1 = false ∷ true ∷ []

abbrev pub symbol_2 : List Bool
symbol_2 = true ∷ false ∷ []
