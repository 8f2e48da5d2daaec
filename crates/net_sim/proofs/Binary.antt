-- Numbers that are read bit by bit.
use Rattle.std.proofs.Common.{◌≡◌, ℕ, suc, ◌+◌, ◌*◌, ◌^◌, ◌<◌, ◌≤◌, Bool, true, false, List, [], ◌∷◌, ◌++◌, length, take, get_or, refl, sym, ◌∙◌, ap, arith, add-one}
use Rattle.std.proofs.Math.Nat.{pow-le-pow_right}
use Rattle.std.proofs.Math.Seq.{take-suc}
use Rattle.std.proofs.lemmas.List.{length_push}
use Rattle.cubes.specs.Symbol.{number_of}
use Rattle.cubes.specs.Laws.Numbers.{number_below, pow-suc}
use mir.Val.{bool_byte}

-- one more bit
pub number_push : (bits : List Bool) (bit : Bool) → number_of (bits ++ bit ∷ []) ≡ number_of bits * 2 + bool_byte bit
unfolding number_of
number_push [] true = refl
number_push [] false = refl
number_push (true ∷ bits) bit =
    let top : 2 ^ length (bits ++ bit ∷ []) ≡ 2 ^ suc (length bits) = ap (λ (n : ℕ). 2 ^ n) (length_push bits bit ∙ add-one (length bits)) in
    let whole : 2 ^ length (bits ++ bit ∷ []) + number_of (bits ++ bit ∷ []) ≡ (2 ^ length bits + number_of bits) * 2 + bool_byte bit = omega (arith, top, pow-suc (length bits), number_push bits bit) in
    whole
number_push (false ∷ bits) bit =
    let whole : 0 + number_of (bits ++ bit ∷ []) ≡ (0 + number_of bits) * 2 + bool_byte bit = omega (arith, number_push bits bit) in
    whole

-- the bits up to a place, and one more
pub number_more : (bits : List Bool) (i number : ℕ) → i < length bits → number ≡ number_of (take i bits) → number * 2 + bool_byte (get_or bits i false) ≡ number_of (take (i + 1) bits)
number_more bits i number lt is =
    ap (λ n. n * 2 + bool_byte (get_or bits i false)) is
    ∙ (sym (number_push (take i bits) (get_or bits i false))
    ∙ ap number_of (sym (ap (λ (n : ℕ). take n bits) (add-one i) ∙ take-suc bits i false lt)))

-- the number of fewer bits than a word has leaves room for one more
pub room_for_bit : (bits : List Bool) (word : ℕ) → length bits < word → number_of bits * 2 + 1 < 2 ^ word
room_for_bit bits word few =
    let above : 2 ^ suc (length bits) ≤ 2 ^ word = pow-le-pow_right {n = 2} (omega arith) {i = suc (length bits)} {j = word} (omega arith) in
    omega (arith, number_below bits, pow-suc (length bits), above)

pub bit_at_most : (bit : Bool) → bool_byte bit ≤ 1
bit_at_most true = omega arith
bit_at_most false = omega arith
