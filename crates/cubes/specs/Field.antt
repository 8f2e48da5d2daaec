-- The input field of a row: characters, each of which is a bit or a dash. A dash is no bit.
use Rattle.std.specs.Prelude.{ℕ, ◌≡◌, ◌⊎◌, zero, suc, Bool, true, false, not, ◌&&◌, if◌then◌else◌, List, [], ◌∷◌, Option, Some, None}
use Rattle.cubes.specs.Symbol.{bit}

-- the byte that writes a character
abbrev pub byte_of : Option Bool → ℕ
byte_of (Some false) = 48
byte_of (Some true) = 49
byte_of None = 45

-- the byte is one of `0`, `1` and `-`
abbrev pub IsCharacter : ℕ → Type 0
IsCharacter byte = (byte ≡ 48) ⊎ (byte ≡ 49) ⊎ (byte ≡ 45)

-- a character that is not a dash is the symbol's bit
abbrev pub Allows : Option Bool → Bool → Type 0
Allows (Some wanted) b = b ≡ wanted
Allows None b = Unit {0}

-- the same, as true or false
abbrev pub allows : Option Bool → Bool → Bool
allows (Some wanted) b = if wanted then b else not b
allows None b = true

-- whether characters hold a symbol: each allows the bit at its place
abbrev pub characters_hold : List (Option Bool) → List Bool → Bool
characters_hold [] [] = true
characters_hold (c ∷ cs) (b ∷ bits) = allows c b && characters_hold cs bits
characters_hold _ _ = false

-- the character at the place of value 2 ^ place: a dash where the bit of `care` is 0
abbrev pub character : ℕ → ℕ → ℕ → Option Bool
character care value place = if bit care place then Some (bit value place) else None

-- the characters of the lowest places, the highest of these places first
unfoldable pub characters : ℕ → ℕ → ℕ → List (Option Bool)
characters zero care value = []
characters (suc places) care value = character care value places ∷ characters places care value
