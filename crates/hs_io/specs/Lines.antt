-- The lines of a text and their fields, as this product reads KISS2, BLIF and symbol files.
use Rattle.std.specs.Prelude.{ℕ, ◌+◌, ◌==◌, Bool, not, ◌||◌, ◌&&◌, nat_le, if◌then◌else◌, List, [], ◌∷◌, length, filter}
use Rattle.std.specs.List.{slice_split, before_first, list_all}
use Rattle.std.specs.Str.Lines.{strip_carriage_return}
use Rattle.hs_io.specs.declared.lines.Line.{Line}

-- a line feed
abbrev pub ends_line : ℕ → Bool
ends_line b = b == 10

-- the mark that begins the comment of a line
abbrev pub begins_comment : ℕ → Bool
begins_comment b = b == 35

-- a space or a tab, which separate fields
abbrev pub is_blank : ℕ → Bool
is_blank b = b == 32 || b == 9

-- the bytes that a line may have outside its comment
abbrev pub is_allowed : ℕ → Bool
is_allowed b = b == 9 || (nat_le 32 b && nat_le b 126)

-- the pieces between line feeds as lines: an empty piece after the last line feed is not a line
abbrev pub lines_of_pieces : List (List ℕ) → List (List ℕ)
lines_of_pieces [] = []
lines_of_pieces (piece ∷ []) = if length piece == 0 then [] else piece ∷ []
lines_of_pieces (piece ∷ next ∷ more) = piece ∷ lines_of_pieces (next ∷ more)

abbrev pub physical_lines : List ℕ → List (List ℕ)
physical_lines bytes = lines_of_pieces (slice_split ends_line bytes)

-- the part of a line that is read: a carriage return at its end is dropped, and then everything from the comment's
-- mark on
abbrev pub content : List ℕ → List ℕ
content line = before_first begins_comment (strip_carriage_return line)

-- a run is a field if it is not empty
abbrev pub is_field : List ℕ → Bool
is_field run = not (length run == 0)

abbrev pub fields_in : List (List ℕ) → List (List ℕ)
fields_in runs = filter is_field runs

-- the longest runs of bytes other than blanks
abbrev pub fields_of : List ℕ → List (List ℕ)
fields_of text = fields_in (slice_split is_blank text)

-- a line with its number; it is bad if it has a byte that is not allowed outside its comment
abbrev pub line_of : ℕ → List ℕ → Line
line_of number line =
    record { number = number; fields = fields_of (content line); bad = not (list_all is_allowed (content line)) }

abbrev pub lines_from : ℕ → List (List ℕ) → List Line
lines_from number [] = []
lines_from number (line ∷ more) = line_of number line ∷ lines_from (number + 1) more

-- the lines of a text, numbered from 1
abbrev pub lines_of : List ℕ → List Line
lines_of bytes = lines_from 1 (physical_lines bytes)

-- a line without fields is skipped, if it is not bad
abbrev pub is_skipped : Line → Bool
is_skipped line = not line.bad && length line.fields == 0
