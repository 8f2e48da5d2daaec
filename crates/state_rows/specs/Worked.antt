-- Three rows of a machine with two inputs and two outputs, to try definitions on.
use Rattle.std.proofs.Common.{lit<, lit≤, refl}
use Rattle.std.specs.Prelude.{List, [], ◌∷◌, Some, None}
use Rattle.cubes.specs.declared.cube.Cube.{Cube}
use Rattle.kiss_file.specs.declared.file.KissRow.{KissRow}

-- the cubes of the fields `0-`, `1-` and `-1`
abbrev pub low_half : Cube
low_half = record { care = 2; value = 0; width = 2; width_positive = lit< tt; width_bound = lit≤ tt; value_in_care = refl; care_in_width = lit< tt }

abbrev pub high_half : Cube
high_half = record { care = 2; value = 2; width = 2; width_positive = lit< tt; width_bound = lit≤ tt; value_in_care = refl; care_in_width = lit< tt }

abbrev pub odd_symbols : Cube
odd_symbols = record { care = 1; value = 1; width = 2; width_positive = lit< tt; width_bound = lit≤ tt; value_in_care = refl; care_in_width = lit< tt }

-- rows of state 0: the first gives every part; the second leaves output 1 open; the third gives output 0 alone, and not
-- as the first does
abbrev pub low_row : KissRow
low_row = record { cube = low_half; from = 0; to = Some 1; care = 3; value = 2 }

abbrev pub high_row : KissRow
high_row = record { cube = high_half; from = 0; to = Some 1; care = 1; value = 1 }

abbrev pub odd_row : KissRow
odd_row = record { cube = odd_symbols; from = 0; to = None; care = 1; value = 1 }

abbrev pub three_rows : List KissRow
three_rows = low_row ∷ high_row ∷ odd_row ∷ []
