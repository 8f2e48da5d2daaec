-- Worked texts: what they say, and what they are refused for.
use Rattle.std.specs.Prelude.{◌≡◌, ℕ, false, List, [], ◌∷◌, ◌++◌, Option, Some, None, codes, map, replicate}
use Rattle.std.specs.List.{flat_map, range_with_len}
use Rattle.cubes.specs.declared.cube.Cube.{Cube}
use Rattle.cubes.specs.Cube.{text_of}
use Rattle.hs_io.specs.declared.lines.Line.{Line}
use Rattle.hs_io.specs.Spelling.{ended}
use Rattle.kiss_file.specs.declared.file.KissFile.{KissFile}
use Rattle.kiss2.specs.declared.fault.KissKind.{KissKind}
use Rattle.kiss2.specs.Kiss.{IsKissFault}

-- the text of these lines
abbrev pub text : List (List ℕ) → List ℕ
text lines = flat_map ended lines

-- the text is refused for a fault of that kind at that line
abbrev pub IsRefused : List (List ℕ) → ℕ → KissKind → Type 0
IsRefused lines number kind = IsKissFault (text lines) number kind

-- a text with comments, blank lines, dashes, names, a reset state, a tab and what follows the ending word
abbrev pub worked_lines : List (List ℕ)
worked_lines =
    codes "# a machine"
    ∷ codes ".i 2 # inputs"
    ∷ codes ".o 02"
    ∷ codes ".p\t7"
    ∷ codes ".r b"
    ∷ codes ".ilb x y"
    ∷ []
    ∷ codes "1- a b 0-"
    ∷ codes "-- b * 11"
    ∷ codes "00 a b -1"
    ∷ codes ".end of it"
    ∷ codes "junk"
    ∷ []

-- a text with more rows and states than it says, whose states come in another order by lines than by columns
abbrev pub passing_lines : List (List ℕ)
passing_lines =
    codes ".s 1"
    ∷ codes ".o 1"
    ∷ codes ".p 1"
    ∷ codes ".i 1"
    ∷ codes ".r d"
    ∷ codes "0 a c 0"
    ∷ codes "1 b - 1"
    ∷ codes "- c d 1"
    ∷ []

-- a text without a reset state, with fewer rows and states than it says, whose first row stands twice
abbrev pub unset_lines : List (List ℕ)
unset_lines =
    codes ".i 1"
    ∷ codes ".o 1"
    ∷ codes ".p 9"
    ∷ codes ".s 9"
    ∷ codes "0 b a 0"
    ∷ codes "0 b a 0"
    ∷ codes "1 a -- 1"
    ∷ []

-- a text with words between its rows and after them
abbrev pub words_last_lines : List (List ℕ)
words_last_lines =
    codes ".i 1"
    ∷ codes ".o 1"
    ∷ codes "0 a b 0"
    ∷ codes ".ob a"
    ∷ codes ".p 2"
    ∷ codes "- b a 1"
    ∷ codes ".ilb b"
    ∷ codes ".s 2"
    ∷ codes ".r b"
    ∷ []

-- a row to a state of that name, whose output field has a bad character
abbrev pub row_to : List ℕ → List ℕ
row_to name = codes "0 a " ++ name ++ codes " 2"

-- a row of one input and one output that is good but for its output field, and one that is good but for its input field
abbrev pub bad_output_line : Line
bad_output_line = record { number = 3; fields = codes "0" ∷ codes "a" ∷ codes "a" ∷ codes "2" ∷ []; bad = false }

abbrev pub bad_cube_line : Line
bad_cube_line = record { number = 3; fields = codes "2" ∷ codes "a" ∷ codes "a" ∷ codes "0" ∷ []; bad = false }

-- a row of three fields, whose input field is bad too, and one with a name of 65 bytes
abbrev pub three_fields_line : Line
three_fields_line = record { number = 3; fields = codes "2" ∷ codes "a" ∷ codes "a" ∷ []; bad = false }

abbrev pub long_state_line : Line
long_state_line = record { number = 3; fields = codes "0" ∷ codes "a" ∷ replicate 65 97 ∷ codes "0" ∷ []; bad = false }

-- a word and its number
abbrev pub word_line : List ℕ → List ℕ → Line
word_line word operand = record { number = 1; fields = word ∷ operand ∷ []; bad = false }

-- a row from a state to a state
abbrev pub state_line : List ℕ → List ℕ → Line
state_line current next = record { number = 3; fields = codes "0" ∷ current ∷ next ∷ codes "0" ∷ []; bad = false }

-- the rows from `aA` to `Aa`, from `aB` to `Ba` and so on to the one from `pH` to `Hp`: 128 rows of 256 states
abbrev pub rows_of_256_states : List Line
rows_of_256_states = flat_map (λ a. map (λ b. state_line (a ∷ b ∷ []) (b ∷ a ∷ [])) (range_with_len 65 8)) (range_with_len 97 16)

-- one input, one output, a row to no state, and these rows
abbrev pub lines_of_256_states : List Line
lines_of_256_states =
    word_line (codes ".i") (codes "1") ∷ word_line (codes ".o") (codes "1") ∷ state_line (codes "aA") (codes "*") ∷ rows_of_256_states

-- the cubes -0 and 01
pub record AreWritten (first second : Cube) : Type 0 where
  pub first_is : text_of first ≡ codes "-0"
  pub second_is : text_of second ≡ codes "01"

-- a file of the states b, c and a with two rows, the second of which names no next state; it starts at a
abbrev pub written_file : Cube → Cube → Option (List (List ℕ)) → Option (List (List ℕ)) → KissFile
written_file first second input_names output_names =
    record {
      inputs = 2;
      outputs = 2;
      reset = 2;
      states = codes "b" ∷ codes "c" ∷ codes "a" ∷ [];
      rows = record { cube = first; from = 0; to = Some 2; care = 3; value = 2 } ∷ record { cube = second; from = 1; to = None; care = 1; value = 1 } ∷ [];
      input_names = input_names;
      output_names = output_names;
    }

-- its lines with names of inputs, with names of outputs, and with both
abbrev pub lines_with_input_names : List (List ℕ)
lines_with_input_names =
    codes ".i 2"
    ∷ codes ".o 2"
    ∷ codes ".ilb x y"
    ∷ codes ".p 2"
    ∷ codes ".s 3"
    ∷ codes ".r a"
    ∷ codes "-0 b a 01"
    ∷ codes "01 c - 1-"
    ∷ codes ".e"
    ∷ []

abbrev pub lines_with_output_names : List (List ℕ)
lines_with_output_names =
    codes ".i 2"
    ∷ codes ".o 2"
    ∷ codes ".ob u v"
    ∷ codes ".p 2"
    ∷ codes ".s 3"
    ∷ codes ".r a"
    ∷ codes "-0 b a 01"
    ∷ codes "01 c - 1-"
    ∷ codes ".e"
    ∷ []

abbrev pub lines_with_all_names : List (List ℕ)
lines_with_all_names =
    codes ".i 2"
    ∷ codes ".o 2"
    ∷ codes ".ilb x y"
    ∷ codes ".ob u v"
    ∷ codes ".p 2"
    ∷ codes ".s 3"
    ∷ codes ".r a"
    ∷ codes "-0 b a 01"
    ∷ codes "01 c - 1-"
    ∷ codes ".e"
    ∷ []
