-- Texts of bits.
use Rattle.std.proofs.Common.{◌≡◌, ◌≢◌, ℕ, ◌<◌, Bool, false, List, [], ◌∷◌, length, map, get_or, refl, ◌∙◌, ap, arith}
use Rattle.std.proofs.lemmas.List.{get_or-map, length-map}
use Rattle.net_sim.specs.BitTexts.{text_of_bits, character_of}

-- a text with a character of no bit is none of bits
pub other_character : (text : List ℕ) (others : List Bool) (place : ℕ) → place < length text → ((bit : Bool) → get_or text place 0 ≢ character_of bit) → text ≢ map character_of others
other_character text others place lt none e =
    let lengths : length text ≡ length others = ap length e ∙ length-map others character_of in
    none (get_or others place false) (ap (λ t. get_or t place 0) e ∙ get_or-map character_of others place false 0 (omega arith))

-- the text of one or more bits has a character for each
pub bit_text_some : (bits : List Bool) → 0 < length bits → text_of_bits bits ≡ map character_of bits
bit_text_some [] some = absurd (omega arith)
bit_text_some (bit ∷ bits) some = refl
