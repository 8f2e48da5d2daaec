-- A file with three rows, two inputs, two outputs and two states, to try definitions on.
use Rattle.std.specs.Prelude.{None, [], ◌∷◌, codes}
use Rattle.kiss_file.specs.declared.file.KissFile.{KissFile}
use Rattle.state_rows.specs.Worked.{three_rows}

abbrev pub three_row_file : KissFile
three_row_file = record {
  inputs = 2;
  outputs = 2;
  reset = 0;
  states = codes "a" ∷ codes "b" ∷ [];
  rows = three_rows;
  input_names = None;
  output_names = None;
}
