-- Cubes, seen as the characters of their field.
use Rattle.std.specs.Prelude.{ℕ, ◌≡◌, ◌≢◌, ◌+◌, ◌-◌, ◌^◌, ◌<◌, List, Option, Bool, true, false, if◌then◌else◌, bit_and, bit_or, bit_xor, length, map, slice_index}
use Rattle.std.specs.List.{AllZip}
use Rattle.cubes.specs.declared.cube.Cube.{Cube}
use Rattle.cubes.specs.Symbol.{bit, symbol_of}
use Rattle.cubes.specs.Field.{Allows, IsCharacter, byte_of, characters, characters_hold}

-- the characters of a cube, one for each bit of a symbol
abbrev pub field_of : Cube → List (Option Bool)
field_of c = characters c.width c.care c.value

-- the text of a cube's field
abbrev pub text_of : Cube → List ℕ
text_of c = map byte_of (field_of c)

-- the cube has a character for each bit of the symbol, and each character that is not a dash is that bit
unfoldable pub Holds : Cube → List Bool → Type 0
Holds c symbol = AllZip Allows (field_of c) symbol

-- the same, as true or false
abbrev pub holds : Cube → List Bool → Bool
holds c symbol = characters_hold (field_of c) symbol

-- the cube holds the symbol of this number
abbrev pub HoldsNumber : Cube → ℕ → Type 0
HoldsNumber c number = Holds c (symbol_of c.width number)

-- some symbol is held by both cubes
abbrev pub Meets : Cube → Cube → Type 0
Meets c d = (symbol : List Bool) × Holds c symbol × Holds d symbol

-- the places where both have a bit, and the bits differ
abbrev pub clash_of : Cube → Cube → ℕ
clash_of c d = bit_and (bit_and (bit_xor c.value d.value) c.care) d.care

-- at some place both cubes have a bit, and these bits differ
abbrev pub DiffersAtPlace : Cube → Cube → Type 0
DiffersAtPlace c d = (k : ℕ) × (k < c.width) × (bit c.care k ≡ true) × (bit d.care k ≡ true) × (bit c.value k ≢ bit d.value k)

-- at each place where the cube has a bit, it is the number's bit
abbrev pub HasBitsOf : Cube → ℕ → Type 0
HasBitsOf c number = (k : ℕ) → k < c.width → bit c.care k ≡ true → bit c.value k ≡ bit number k

-- the number with a 1 at each dash
abbrev pub greatest_of : Cube → ℕ
greatest_of c = c.value + (2 ^ c.width - 1 - c.care)

-- the cube with the bits of both cubes
pub record IsBoth (c d both : Cube) : Type 0 where
  pub first_width : both.width ≡ c.width
  pub second_width : both.width ≡ d.width
  pub care : both.care ≡ bit_or c.care d.care
  pub value : both.value ≡ bit_or c.value d.value

-- the half of a cube that has this bit at the place of one of its dashes
pub record IsHalf (c half : Cube) (place : ℕ) (b : Bool) : Type 0 where
  pub place_within : place < c.width
  pub dash : bit c.care place ≡ false
  pub width : half.width ≡ c.width
  pub care : half.care ≡ bit_or c.care (2 ^ place)
  pub value : half.value ≡ (if b then bit_or c.value (2 ^ place) else c.value)

-- the first place of a text whose byte is not `0`, `1` or `-`
pub record IsFirstBad (text : List ℕ) (place : ℕ) : Type 0 where
  pub inside : place < length text
  pub bad : ¬ IsCharacter (slice_index text place)
  pub first : (i : ℕ) → i < place → IsCharacter (slice_index text i)
