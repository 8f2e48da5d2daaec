-- The parts of the text of a record.
use Rattle.std.specs.Prelude.{ℕ, List, [], ◌∷◌, ◌++◌, codes, length, map}
use Rattle.std.specs.Fmt.{decimal}
use Rattle.kiss_file.specs.declared.file.KissFile.{KissFile}
use Rattle.kiss_file.specs.Names.{name_of}
use Rattle.kiss2.specs.KissText.{fields_of_row, given_line, states_standing}

-- the numbers of inputs and outputs, and their names
abbrev pub head_lines : KissFile → List (List (List ℕ))
head_lines F =
    (codes ".i" ∷ decimal F.inputs ∷ [])
    ∷ (codes ".o" ∷ decimal F.outputs ∷ [])
    ∷ (given_line (codes ".ilb") F.input_names ++ given_line (codes ".ob") F.output_names)

-- the numbers of rows and states, and the reset state
abbrev pub count_lines : KissFile → List (List (List ℕ))
count_lines F =
    (codes ".p" ∷ decimal (length F.rows) ∷ [])
    ∷ (codes ".s" ∷ decimal (states_standing F) ∷ [])
    ∷ (codes ".r" ∷ name_of F.states F.reset ∷ [])
    ∷ []

-- the rows, and the ending word
abbrev pub table_lines : KissFile → List (List (List ℕ))
table_lines F = map (fields_of_row F.states F.outputs) F.rows ++ (codes ".e" ∷ []) ∷ []
