-- The machine of a part of a small machine.
use Rattle.std.specs.Prelude.{◌≡◌, ℕ, true, false, List, [], ◌∷◌, None, Some, codes}
use Rattle.cubes.specs.declared.cube.Cube.{Cube}
use Rattle.cubes.specs.Cube.{field_of}
use Rattle.dependence.specs.declared.sets.Reads.{Reads}
use Rattle.kiss_file.specs.declared.file.KissFile.{KissFile}
use Rattle.kiss_file.specs.declared.file.KissRow.{KissRow}
use Rattle.net_core.specs.declared.SignalNames.{SignalNames}
use Rattle.part_machines.specs.PartMachine.{IsPartOf}
use Rattle.state_codes.specs.declared.Codes.{Codes}
use Rattle.state_codes.specs.declared.split.Part.{Part}
use Rattle.state_codes.specs.declared.which.Which.TheVariants.{Part as Numbered}
use Rattle.state_codes.specs.Split.{given_parts}

-- the cubes -0, -1, 01, 11, 00, 10, 0- and 1-
pub record PairCubes : Type 0 where
  pub second_0 : Cube
  pub second_1 : Cube
  pub both_01 : Cube
  pub both_11 : Cube
  pub both_00 : Cube
  pub both_10 : Cube
  pub first_0 : Cube
  pub first_1 : Cube
  pub second_0_is : field_of second_0 ≡ None ∷ Some false ∷ []
  pub second_1_is : field_of second_1 ≡ None ∷ Some true ∷ []
  pub both_01_is : field_of both_01 ≡ Some false ∷ Some true ∷ []
  pub both_11_is : field_of both_11 ≡ Some true ∷ Some true ∷ []
  pub both_00_is : field_of both_00 ≡ Some false ∷ Some false ∷ []
  pub both_10_is : field_of both_10 ≡ Some true ∷ Some false ∷ []
  pub first_0_is : field_of first_0 ≡ Some false ∷ None ∷ []
  pub first_1_is : field_of first_1 ≡ Some true ∷ None ∷ []

-- ---- the machine
-- a row of the counter, which has one output
abbrev pub counter_row : Cube → ℕ → ℕ → ℕ → KissRow
counter_row cube from to value = record { cube = cube; from = from; to = Some to; care = 1; value = value }

-- A counter modulo 4 that steps where v is 1, and gives 1 where it leaves a and u is 1. It starts at c. Its rows are
-- `-0 a a 0`, `01 a b 0`, `11 a b 1`, `-0 b b 0`, `-1 b c 0`, `-0 c c 0`, `-1 c d 0`, `-0 d d 0` and `-1 d a 0`.
abbrev pub counter : PairCubes → KissFile
counter cubes =
    record {
      inputs = 2;
      outputs = 1;
      reset = 2;
      states = codes "a" ∷ codes "b" ∷ codes "c" ∷ codes "d" ∷ [];
      rows =
          counter_row cubes.second_0 0 0 0
          ∷ counter_row cubes.both_01 0 1 0
          ∷ counter_row cubes.both_11 0 1 1
          ∷ counter_row cubes.second_0 1 1 0
          ∷ counter_row cubes.second_1 1 2 0
          ∷ counter_row cubes.second_0 2 2 0
          ∷ counter_row cubes.second_1 2 3 0
          ∷ counter_row cubes.second_0 3 3 0
          ∷ counter_row cubes.second_1 3 0 0
          ∷ [];
      input_names = Some (codes "u" ∷ codes "v" ∷ []);
      output_names = Some (codes "w" ∷ []);
    }

-- ---- its split
-- part 0 has the blocks {a, c, d} and {b}, and part 1 has {a, b}, {c} and {d}
abbrev pub counter_parts : List Part
counter_parts = given_parts 2 0 ((0 ∷ 1 ∷ 0 ∷ 0 ∷ []) ∷ (0 ∷ 0 ∷ 1 ∷ 2 ∷ []) ∷ [])

-- bit 0 is of part 0, and bits 1 and 2 are of part 1: the codes of a, b, c and d are 000, 100, 001 and 010, bit 0 first
abbrev pub counter_code : Codes
counter_code =
    record {
      bits = 3;
      words = 0 ∷ 1 ∷ 4 ∷ 2 ∷ [];
      owner = 0 ∷ 1 ∷ 1 ∷ [];
      carried = true ∷ true ∷ true ∷ [];
    }

-- the gate of bit 0 reads v and all bits, that of bit 1 reads v and bits 1 and 2, that of bit 2 reads v and bits 0 and 2,
-- and that of the output reads all
abbrev pub counter_sets : Reads
counter_sets =
    record {
      latches =
          record { inputs = 1 ∷ []; latches = 0 ∷ 1 ∷ 2 ∷ [] }
          ∷ record { inputs = 1 ∷ []; latches = 1 ∷ 2 ∷ [] }
          ∷ record { inputs = 1 ∷ []; latches = 0 ∷ 2 ∷ [] }
          ∷ [];
      outputs = record { inputs = 0 ∷ 1 ∷ []; latches = 0 ∷ 1 ∷ 2 ∷ [] } ∷ [];
    }

abbrev pub counter_names : SignalNames
counter_names =
    record {
      inputs = codes "u" ∷ codes "v" ∷ [];
      outputs = codes "w" ∷ [];
      latch_inputs = codes "d0" ∷ codes "d1" ∷ codes "d2" ∷ [];
      latch_outputs = codes "q0" ∷ codes "q1" ∷ codes "q2" ∷ [];
    }

-- ---- the machine of part 1
-- a row of it; it has two outputs
abbrev pub part_row : Cube → ℕ → ℕ → ℕ → KissRow
part_row cube from to value = record { cube = cube; from = from; to = Some to; care = 3; value = value }

-- It reads v and q0, gives q1 and q2, and starts at the block of c. Its rows are `00 a a 00`, `10 a a 00`, `01 a a 00`,
-- `11 a c 00`, `0- c c 01`, `1- c d 01`, `0- d d 10` and `1- d a 10`.
abbrev pub second_part : PairCubes → KissFile
second_part cubes =
    record {
      inputs = 2;
      outputs = 2;
      reset = 1;
      states = codes "a" ∷ codes "c" ∷ codes "d" ∷ [];
      rows =
          part_row cubes.both_00 0 0 0
          ∷ part_row cubes.both_10 0 0 0
          ∷ part_row cubes.both_01 0 0 0
          ∷ part_row cubes.both_11 0 1 0
          ∷ part_row cubes.first_0 1 1 2
          ∷ part_row cubes.first_1 1 2 2
          ∷ part_row cubes.first_0 2 2 1
          ∷ part_row cubes.first_1 2 0 1
          ∷ [];
      input_names = Some (codes "v" ∷ codes "q0" ∷ []);
      output_names = Some (codes "q1" ∷ codes "q2" ∷ []);
    }

-- the machine is that of part 1 of the counter
abbrev pub IsSecondPart : PairCubes → KissFile → Type 0
IsSecondPart cubes P = IsPartOf (counter cubes) counter_parts counter_code counter_sets counter_names (Numbered 1) P

-- the same machine with another reset state, with names of states, or with names of inputs
abbrev pub starting_at : PairCubes → ℕ → KissFile
starting_at cubes reset = let P : KissFile = second_part cubes in record P { reset = reset }

abbrev pub with_states : PairCubes → List (List ℕ) → KissFile
with_states cubes states = let P : KissFile = second_part cubes in record P { states = states }

abbrev pub with_inputs : PairCubes → List (List ℕ) → KissFile
with_inputs cubes names = let P : KissFile = second_part cubes in record P { input_names = Some names }
