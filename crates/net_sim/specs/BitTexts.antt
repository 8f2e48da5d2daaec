-- Bits as texts (source: this product's profile): the symbols of a file, the lines of answers, and given starts.
use Rattle.std.specs.Prelude.{◌≡◌, ℕ, Bool, if◌then◌else◌, List, [], ◌∷◌, length, map, codes}

-- the character of a bit
abbrev pub character_of : Bool → ℕ
character_of bit = if bit then 49 else 48

-- the text of bits in order; it is a dash if there are none
abbrev pub text_of_bits : List Bool → List ℕ
text_of_bits [] = codes "-"
text_of_bits (bit ∷ bits) = map character_of (bit ∷ bits)

-- the text is the text of these `count` bits
pub record IsBitText (count : ℕ) (text : List ℕ) (bits : List Bool) : Type 0 where
  pub as_many : length bits ≡ count
  pub is : text ≡ text_of_bits bits
