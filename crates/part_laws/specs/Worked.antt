-- Two small machines that read each other, and one that gives the output.
use Rattle.std.specs.Prelude.{◌≡◌, ℕ, Bool, true, false, List, [], ◌∷◌, Some, None, codes}
use Rattle.cubes.specs.declared.cube.Cube.{Cube}
use Rattle.cubes.specs.Cube.{field_of}
use Rattle.kiss_file.specs.declared.file.KissFile.{KissFile}
use Rattle.kiss_file.specs.declared.file.KissRow.{KissRow}
use Rattle.part_laws.specs.Together.{MachineAt}

-- the cubes 0, 1, -, 11, -0, 01 and --
pub record Cubes : Type 0 where
  pub zero_cube : Cube
  pub one_cube : Cube
  pub any_cube : Cube
  pub both : Cube
  pub off : Cube
  pub last : Cube
  pub any_two : Cube
  pub zero_is : field_of zero_cube ≡ Some false ∷ []
  pub one_is : field_of one_cube ≡ Some true ∷ []
  pub any_is : field_of any_cube ≡ None ∷ []
  pub both_is : field_of both ≡ Some true ∷ Some true ∷ []
  pub off_is : field_of off ≡ None ∷ Some false ∷ []
  pub last_is : field_of last ≡ Some false ∷ Some true ∷ []
  pub any_two_is : field_of any_two ≡ None ∷ None ∷ []

-- a row from a state to another one that gives one output
abbrev pub row : Cube → ℕ → ℕ → ℕ → KissRow
row cube from to value = record { cube = cube; from = from; to = Some to; care = 1; value = value }

-- the machine a reads b. Its rows are `- 0 1 0`, `0 1 1 1` and `1 1 0 1`.
abbrev pub machine_a : Cubes → KissFile
machine_a cubes =
    record {
      inputs = 1;
      outputs = 1;
      reset = 0;
      states = codes "0" ∷ codes "1" ∷ [];
      rows = row cubes.any_cube 0 1 0 ∷ row cubes.zero_cube 1 1 1 ∷ row cubes.one_cube 1 0 1 ∷ [];
      input_names = Some (codes "b" ∷ []);
      output_names = Some (codes "a" ∷ []);
    }

-- the machine b reads x and a. Its rows are `11 0 1 0`, `-0 0 0 0`, `01 0 0 0` and `-- 1 0 1`.
abbrev pub machine_b : Cubes → KissFile
machine_b cubes =
    record {
      inputs = 2;
      outputs = 1;
      reset = 0;
      states = codes "0" ∷ codes "1" ∷ [];
      rows = row cubes.both 0 1 0 ∷ row cubes.off 0 0 0 ∷ row cubes.last 0 0 0 ∷ row cubes.any_two 1 0 1 ∷ [];
      input_names = Some (codes "x" ∷ codes "a" ∷ []);
      output_names = Some (codes "b" ∷ []);
    }

-- the machine of the outputs reads b, and gives it
abbrev pub machine_z : Cubes → KissFile
machine_z cubes =
    record {
      inputs = 1;
      outputs = 1;
      reset = 0;
      states = codes "0" ∷ [];
      rows = row cubes.zero_cube 0 0 0 ∷ row cubes.one_cube 0 0 1 ∷ [];
      input_names = Some (codes "b" ∷ []);
      output_names = Some (codes "z" ∷ []);
    }

-- the machines a and b, each at a state
abbrev pub places : Cubes → ℕ → ℕ → List MachineAt
places cubes s t = record { machine = machine_a cubes; state = s } ∷ record { machine = machine_b cubes; state = t } ∷ []

-- a machine that gives what it reads, under another name
abbrev pub copier : Cubes → List ℕ → List ℕ → KissFile
copier cubes from to = let z : KissFile = machine_z cubes in record z { input_names = Some (from ∷ []); output_names = Some (to ∷ []) }

-- two of them that read each other, so that they may both give 0, or both 1
abbrev pub loop : Cubes → List MachineAt
loop cubes = record { machine = copier cubes (codes "a") (codes "b"); state = 0 } ∷ record { machine = copier cubes (codes "b") (codes "a"); state = 0 } ∷ []

-- the input, and symbols and answers of one bit
abbrev pub input_x : List (List ℕ)
input_x = codes "x" ∷ []

abbrev pub low : List Bool
low = false ∷ []

abbrev pub high : List Bool
high = true ∷ []
