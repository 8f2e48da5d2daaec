-- The lines of a BLIF text, where a backslash at the end of a line joins it with the next one (source: the SIS manual).
use Rattle.std.specs.Prelude.{ℕ, ◌-◌, ◌==◌, Bool, false, not, ◌||◌, ◌&&◌, if◌then◌else◌, List, [], ◌∷◌, ◌++◌, length, filter, take, take_while, slice_index, slice_index_or}
use Rattle.std.specs.List.{list_any}
use Rattle.std.specs.Str.{bytes_eq}
use Rattle.hs_io.specs.declared.lines.Line.{Line}
use Rattle.hs_io.specs.Lines.{is_field, lines_of}
use Rattle.net_core.specs.Words.{end_word}

abbrev pub is_backslash : ℕ → Bool
is_backslash b = b == 92

abbrev pub ends_in_backslash : List ℕ → Bool
ends_in_backslash field = is_backslash (slice_index field (length field - 1))

-- the line's last byte other than a blank is a backslash
abbrev pub is_continued : List (List ℕ) → Bool
is_continued [] = false
is_continued (field ∷ []) = ends_in_backslash field
is_continued (field ∷ next ∷ more) = is_continued (next ∷ more)

-- the fields without that backslash; where it is a field of its own, that field is dropped
abbrev pub without_backslash : List (List ℕ) → List (List ℕ)
without_backslash [] = []
without_backslash (field ∷ []) = filter is_field (take (length field - 1) field ∷ [])
without_backslash (field ∷ next ∷ more) = field ∷ without_backslash (next ∷ more)

abbrev pub read_fields : List (List ℕ) → List (List ℕ)
read_fields fields = if is_continued fields then without_backslash fields else fields

-- the part of a joined line that a physical line gives; a backslash elsewhere makes it bad
abbrev pub part_of : Line → Line
part_of line =
    record { number = line.number; fields = read_fields line.fields; bad = line.bad || list_any (list_any is_backslash) (read_fields line.fields) }

-- a part before a joined line, or alone at the end of the text
abbrev pub in_front : Line → List Line → List Line
in_front part [] = part ∷ []
in_front part (line ∷ lines) =
    record { number = part.number; fields = part.fields ++ line.fields; bad = part.bad || line.bad } ∷ lines

-- the joined lines, each with the number of its first line
abbrev pub joined : List Line → List Line
joined [] = []
joined (line ∷ lines) = if is_continued line.fields then in_front (part_of line) (joined lines) else part_of line ∷ joined lines

-- the first field, or nothing
abbrev pub word_of : List (List ℕ) → List ℕ
word_of fields = slice_index_or fields 0 []

-- the line ends the text
abbrev pub ends_text : Line → Bool
ends_text line = not line.bad && bytes_eq (word_of line.fields) end_word

-- the lines that are read: those before the one that ends the text
abbrev pub read_lines : List ℕ → List Line
read_lines bytes = take_while (λ line. not (ends_text line)) (joined (lines_of bytes))
