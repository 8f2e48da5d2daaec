-- Joined lines, part by part, and those of them that are statements.
use Rattle.std.specs.Prelude.{ℕ, ◌||◌, if◌then◌else◌, Option, Some, None, List, [], ◌∷◌, ◌++◌}
use Rattle.hs_io.specs.declared.lines.Line.{Line}
use Rattle.hs_io.specs.Lines.{is_skipped, lines_of}
use Rattle.net_core.specs.JoinedLines.{ends_text, in_front, joined}

-- the front of a joined line with one more part
abbrev pub merged : Line → Line → Line
merged front part = record { number = front.number; fields = front.fields ++ part.fields; bad = front.bad || part.bad }

abbrev pub behind : Option Line → Line → Line
behind None part = part
behind (Some front) part = merged front part

-- lines after the front of a joined line, if there is one
abbrev pub lines_behind : Option Line → List Line → List Line
lines_behind None lines = lines
lines_behind (Some front) lines = in_front front lines

-- the lines of the statements
abbrev pub statement_lines : List Line → List Line
statement_lines [] = []
statement_lines (line ∷ lines) =
    if ends_text line then [] else (if is_skipped line then statement_lines lines else line ∷ statement_lines lines)

-- the lines of the statements of a text
abbrev pub lines_read : List ℕ → List Line
lines_read bytes = statement_lines (joined (lines_of bytes))
