-- How cases write bytes.
use Rattle.std.specs.Prelude.{ℕ, List, [], ◌∷◌, ◌+◌, ◌/◌, ◌%◌, ◌&&◌, ◌==◌, Bool, if◌then◌else◌, ltb, leb, not, codes}

-- the character of a hexadecimal digit
abbrev pub digit_of : ℕ → ℕ
digit_of digit = if ltb digit 10 then 48 + digit else 87 + digit

-- whether a byte is written as itself
abbrev pub is_plain : ℕ → Bool
is_plain byte = leb 32 byte && leb byte 126 && not (byte == 92)

-- the two hexadecimal digits of a byte after a backslash and an x
abbrev pub hexadecimal : ℕ → List ℕ
hexadecimal byte = 92 ∷ 120 ∷ digit_of (byte / 16) ∷ digit_of (byte % 16) ∷ []

-- a byte as it is written
abbrev pub escape_of : ℕ → List ℕ
escape_of byte =
    if byte == 10 then codes "\\n" else (if byte == 13 then codes "\\r" else (if byte == 9 then codes "\\t" else (if is_plain byte then byte ∷ [] else hexadecimal byte)))
