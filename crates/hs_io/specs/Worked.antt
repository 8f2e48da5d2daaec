-- Worked texts and their lines.
use Rattle.std.specs.Prelude.{◌≡◌, ℕ, true, false, List, [], ◌∷◌}
use Rattle.hs_io.specs.declared.lines.Line.{Line}
use Rattle.hs_io.specs.Lines.{lines_of}

-- a line that is not bad
abbrev pub clean : ℕ → List (List ℕ) → Line
clean number fields = record { number = number; fields = fields; bad = false }

-- a bad line
abbrev pub bad : ℕ → List (List ℕ) → Line
bad number fields = record { number = number; fields = fields; bad = true }

-- the text has these lines
abbrev pub HasLines : List ℕ → List Line → Type 0
HasLines text lines = lines_of text ≡ lines

-- the text is one line with these fields, and the line is not bad
abbrev pub IsClean : List ℕ → List (List ℕ) → Type 0
IsClean text fields = HasLines text (clean 1 fields ∷ [])

-- the text is one line with these fields, and the line is bad
abbrev pub IsBad : List ℕ → List (List ℕ) → Type 0
IsBad text fields = HasLines text (bad 1 fields ∷ [])

-- a byte between two letters
abbrev pub between : ℕ → List ℕ
between byte = 97 ∷ byte ∷ 98 ∷ []
