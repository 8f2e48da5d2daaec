-- Symbols and their numbers are inverse to each other.
use Rattle.std.proofs.Common.{◌≡◌, ℕ, zero, suc, ◌+◌, ◌*◌, ◌%◌, ◌^◌, ◌<◌, ◌≤◌, Bool, true, false, cond, List, [], ◌∷◌, length, ap, sym, ◌∙◌, refl, arith, inl, inr, ◌-◌}
use Rattle.std.proofs.Math.Nat.{mod-one}
use Rattle.std.proofs.lemmas.Bool.{cases_Bool}
use Rattle.std.proofs.lemmas.Nat.{mod-pow-add}
use Rattle.std.proofs.lemmas.Nat.Bits.{bit_at_cat_low, bit_at_cat_high, bit_at_above}
use Rattle.std.specs.Int.{bit_at}
use Rattle.cubes.specs.Symbol.{bit, number_of, symbol_of}
use Rattle.cubes.specs.Laws.Bits.{one_from_bit, zero_from_bit, bit_from_one, bit_from_zero, same_bits}

pub length-symbol_of : (places number : ℕ) → length (symbol_of places number) ≡ places
unfolding symbol_of
length-symbol_of zero number = refl
length-symbol_of (suc p) number = ap suc (length-symbol_of p number)

-- twice as many numbers with one bit more
pub pow-suc : (p : ℕ) → 2 ^ suc p ≡ 2 ^ p + 2 ^ p
pow-suc p = omega arith

pub number_below : (symbol : List Bool) → number_of symbol < 2 ^ length symbol
unfolding number_of
number_below [] = omega arith
number_below (true ∷ bits) = omega (arith, number_below bits, pow-suc (length bits))
number_below (false ∷ bits) = omega (arith, number_below bits, pow-suc (length bits))

-- the digit of a bit, times a power of two
pub digit_times : (n k : ℕ) → cond (bit n k) (2 ^ k) 0 ≡ bit_at n k * 2 ^ k
digit_times n k =
    elim (cases_Bool (bit n k)) [
      | inl t ↦ rw (t, one_from_bit n k t) (omega arith)
      | inr f ↦ rw (f, zero_from_bit n k f) (omega arith)
    ]

pub number_of-symbol_of : (places number : ℕ) → number_of (symbol_of places number) ≡ number % 2 ^ places
unfolding number_of symbol_of
number_of-symbol_of zero number = sym (mod-one number)
number_of-symbol_of (suc p) number =
    let rest : number_of (symbol_of p number) ≡ number % 2 ^ p = number_of-symbol_of p number in
    let one_more : 1 + p ≡ suc p = omega arith in
    let whole : number % 2 ^ suc p ≡ bit_at number p * 2 ^ p + number % 2 ^ p = rw one_more at (mod-pow-add number 1 p) in
    rw (length-symbol_of p number, digit_times number p, rest, whole) refl

-- the bit that a power of two adds to a lesser number
pub bit-top : (k n : ℕ) → n < 2 ^ k → bit (2 ^ k + n) k ≡ true
bit-top k n lt =
    let factor : 1 * 2 ^ k + n ≡ 2 ^ k + n = omega arith in
    let none : k - k ≡ 0 = omega arith in
    let here : bit_at (2 ^ k + n) k ≡ bit_at 1 (k - k) = rw factor at (bit_at_cat_high 1 k n k lt (omega arith)) in
    bit_from_one (2 ^ k + n) k (here ∙ ap (λ i. bit_at 1 i) none)

pub bit-above : (k n : ℕ) → n < 2 ^ k → bit n k ≡ false
bit-above k n lt = bit_from_zero n k (bit_at_above n k k lt (omega arith))

-- the lowest bits are those of a part of the number
pub symbol_of-low : (places top number high : ℕ) → places ≤ top → symbol_of places (high * 2 ^ top + number) ≡ symbol_of places number
unfolding symbol_of
symbol_of-low zero top number high lt = refl
symbol_of-low (suc p) top number high lt =
    let head : bit (high * 2 ^ top + number) p ≡ bit number p = same_bits _ _ p p (bit_at_cat_low high top number p (omega (arith, lt))) in
    let tail : symbol_of p (high * 2 ^ top + number) ≡ symbol_of p number = symbol_of-low p top number high (omega (arith, lt)) in
    rw (head, tail) refl

pub symbol_of-low_top : (places top number : ℕ) → places ≤ top → symbol_of places (2 ^ top + number) ≡ symbol_of places number
symbol_of-low_top places top number lt =
    let factor : 1 * 2 ^ top + number ≡ 2 ^ top + number = omega arith in
    rw factor at (symbol_of-low places top number 1 lt)

pub symbol_of-number_of : (symbol : List Bool) → symbol_of (length symbol) (number_of symbol) ≡ symbol
unfolding number_of symbol_of
symbol_of-number_of [] = refl
symbol_of-number_of (true ∷ bits) =
    let top : bit (2 ^ length bits + number_of bits) (length bits) ≡ true = bit-top (length bits) (number_of bits) (number_below bits) in
    let low : symbol_of (length bits) (2 ^ length bits + number_of bits) ≡ symbol_of (length bits) (number_of bits) =
    symbol_of-low_top (length bits) (length bits) (number_of bits) (omega arith) in
    rw (top, low, symbol_of-number_of bits) refl
symbol_of-number_of (false ∷ bits) =
    let none : 0 + number_of bits ≡ number_of bits = omega arith in
    let top : bit (number_of bits) (length bits) ≡ false = bit-above (length bits) (number_of bits) (number_below bits) in
    rw (none, top, symbol_of-number_of bits) refl
