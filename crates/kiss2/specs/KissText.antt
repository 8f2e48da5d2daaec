-- The KISS2 text of a record (source: SIS manual, KISS2).
use Rattle.std.specs.Prelude.{ℕ, ◌==◌, List, [], ◌∷◌, ◌++◌, Option, Some, None, codes, count_by, length, map}
use Rattle.std.specs.Fmt.{decimal}
use Rattle.std.specs.List.{list_any, range_with_len}
use Rattle.cubes.specs.Cube.{text_of}
use Rattle.cubes.specs.Field.{byte_of, character}
use Rattle.hs_io.specs.Spelling.{spelled}
use Rattle.kiss_file.specs.declared.file.KissFile.{KissFile}
use Rattle.kiss_file.specs.declared.file.KissRow.{KissRow}
use Rattle.kiss2.specs.Kiss.{Kiss}
use Rattle.kiss_file.specs.LawfulFile.{IsLawful, appearances}
use Rattle.kiss_file.specs.Names.{name_of}

-- the name of a next state, or a dash if there is none
abbrev pub next_name : List (List ℕ) → Option ℕ → List ℕ
next_name names None = codes "-"
next_name names (Some state) = name_of names state

-- a character for each output, output 0 first
abbrev pub output_characters : ℕ → KissRow → List ℕ
output_characters outputs row = map (λ b. byte_of (character row.care row.value b)) (range_with_len 0 outputs)

-- the fields of a row
abbrev pub fields_of_row : List (List ℕ) → ℕ → KissRow → List (List ℕ)
fields_of_row names outputs row = text_of row.cube ∷ name_of names row.from ∷ next_name names row.to ∷ output_characters outputs row ∷ []

-- a line of given names, if there are any
abbrev pub given_line : List ℕ → Option (List (List ℕ)) → List (List (List ℕ))
given_line word None = []
given_line word (Some names) = (word ∷ names) ∷ []

-- the number of states in the rows
abbrev pub states_standing : KissFile → ℕ
states_standing F = count_by (λ s. list_any (λ t. t == s) (appearances F)) (range_with_len 0 (length F.states))

-- the lines, each by its fields
abbrev pub kiss_lines : KissFile → List (List (List ℕ))
kiss_lines F =
    (codes ".i" ∷ decimal F.inputs ∷ [])
    ∷ (codes ".o" ∷ decimal F.outputs ∷ [])
    ∷ (given_line (codes ".ilb") F.input_names
    ++ given_line (codes ".ob") F.output_names
    ++ ((codes ".p" ∷ decimal (length F.rows) ∷ [])
    ∷ (codes ".s" ∷ decimal (states_standing F) ∷ [])
    ∷ (codes ".r" ∷ name_of F.states F.reset ∷ [])
    ∷ (map (fields_of_row F.states F.outputs) F.rows ++ (codes ".e" ∷ []) ∷ [])))

-- the text
abbrev pub kiss_text : KissFile → List ℕ
kiss_text F = spelled (kiss_lines F)

-- what is written of a lawful record is read back as that record
abbrev pub WrittenIsRead : Type 0
WrittenIsRead = (F : KissFile) → IsLawful F → Kiss (kiss_text F) F
