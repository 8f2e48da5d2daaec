-- The number of the values of a word, bit by bit.
use Rattle.std.proofs.Common.{◌≡◌, inl, inr, ℕ, zero, suc, ◌+◌, ◌*◌, ◌/◌, ◌%◌, ◌^◌, ◌<◌, ◌≤◌, Bool, List, [], ◌∷◌, ◌++◌, get_or, length, map, take, refl, sym, ◌∙◌, ap, subst, arith, add-one, bit_and}
use Rattle.std.specs.Int.{bit_at}
use Rattle.std.proofs.Math.Pow.{pow-lt}
use Rattle.std.proofs.lemmas.Bool.{cases_lt}
use Rattle.std.proofs.lemmas.List.{map-append, take_all, take_more}
use Rattle.std.proofs.lemmas.Nat.Bits.{bit_at-lt, bit_at-suc, bit_at_lowest, shr_and_one}
use Rattle.cubes.specs.Symbol.{bit, symbol_of}
use Rattle.cubes.specs.Laws.Bits.{same_bits}
use Rattle.cubes.specs.Laws.Numbers.{pow-suc}

half_twice : (n b : ℕ) → b < 2 → (2 * n + b) / 2 ≡ n
half_twice n b low = omega arith

rest_twice : (n b : ℕ) → b < 2 → (2 * n + b) % 2 ≡ b
rest_twice n b low = omega arith

-- the double has the bits of the number, one place higher
pub bit_before : (n b k : ℕ) → b < 2 → bit_at (2 * n + b) (suc k) ≡ bit_at n k
bit_before n b k low = bit_at-suc (2 * n + b) k ∙ ap (λ (m : ℕ). bit_at m k) (half_twice n b low)

pub bit_last : (n word c : ℕ) → bit_at (2 * n + bit_at word c) 0 ≡ bit_at word c
bit_last n word c = bit_at_lowest (2 * n + bit_at word c) ∙ rest_twice n (bit_at word c) (bit_at-lt word c)

-- a symbol with one more bit at its end
symbol_longer : (width n word c : ℕ) → symbol_of (suc width) (2 * n + bit_at word c) ≡ symbol_of width n ++ bit word c ∷ []
unfolding symbol_of
symbol_longer zero n word c =
    ap (λ (b : Bool). b ∷ []) (same_bits (2 * n + bit_at word c) word 0 c (bit_last n word c))
symbol_longer (suc width) n word c =
    let first : bit (2 * n + bit_at word c) (suc width) ≡ bit n width = same_bits (2 * n + bit_at word c) n (suc width) width (bit_before n (bit_at word c) width (bit_at-lt word c)) in
    let rest : symbol_of (suc width) (2 * n + bit_at word c) ≡ symbol_of width n ++ bit word c ∷ [] = symbol_longer width n word c in
    cc

-- a bit of a word, as code takes it
pub taken_bit : (word c : ℕ) → bit_and (word / 2 ^ c) 1 ≡ bit_at word c
taken_bit word c = shr_and_one word c

pub taken_low : (word c : ℕ) → bit_and (word / 2 ^ c) 1 < 2
taken_low word c = omega (arith, taken_bit word c, bit_at-lt word c)

-- a number below a power of two can be doubled, where that power is not the last
pub double_fits : (value place b : ℕ) → value < 2 ^ place → place < 32 → b < 2 → 2 * value + b < 4294967296
double_fits value place b low below small =
    fits value (2 ^ place) b low (power_at_most place below) small
  where
    power_at_most : (n : ℕ) → n < 32 → 2 ^ n ≤ 2147483648
    power_at_most n below = elim (cases_lt n 31) [
      | inl lower ↦ let small : 2 ^ n < 2 ^ 31 = pow-lt lower in omega arith
      | inr at ↦ let here : n ≡ 31 = omega arith in omega (arith, ap (λ (m : ℕ). 2 ^ m) here)
    ]

    fits : (v p c : ℕ) → v < p → p ≤ 2147483648 → c < 2 → 2 * v + c < 4294967296
    fits v p c low small also = omega arith

pub record IsSpelled (word : ℕ) (bits : List ℕ) (place value : ℕ) : Type 0 where
  pub below : value < 2 ^ place
  pub spelled : symbol_of place value ≡ map (bit word) (take place bits)

-- no bits
pub spelled_none : (word : ℕ) (bits : List ℕ) → IsSpelled word bits 0 0
unfolding symbol_of
spelled_none word bits = record { below = omega arith; spelled = refl }

-- one bit more
pub spelled_more : (word : ℕ) (bits : List ℕ) (place value taken : ℕ) → place < length bits → taken ≡ bit_at word (get_or bits place 0)
    → IsSpelled word bits place value → IsSpelled word bits (place + 1) (2 * value + taken)
spelled_more word bits place value taken within is spelled =
    let c : ℕ = get_or bits place 0 in
    let low : bit_at word c < 2 = bit_at-lt word c in
    let next : 2 ^ suc place ≡ 2 ^ place + 2 ^ place = pow-suc place in
    subst (λ (n : ℕ). IsSpelled word bits n (2 * value + taken)) (sym (add-one place))
    (subst (λ (b : ℕ). IsSpelled word bits (suc place) (2 * value + b)) (sym is)
    (record {
      below = doubled value (2 ^ place) (2 ^ suc place) (bit_at word c) spelled.below next low;
      spelled =
          symbol_longer place value word c
          ∙ (ap (λ (x : List Bool). x ++ bit word c ∷ []) spelled.spelled
          ∙ (sym (map-append (bit word) (take place bits) (c ∷ []))
          ∙ ap (map (bit word)) (sym (take_more bits place 0 within) ∙ ap (λ (n : ℕ). take n bits) (add-one place))));
    }))
  where
    doubled : (v p q b : ℕ) → v < p → q ≡ p + p → b < 2 → 2 * v + b < q
    doubled v p q b low next small = omega arith

-- all bits
pub spelled_all : (word : ℕ) (bits : List ℕ) (place value : ℕ) → length bits ≤ place → place ≤ length bits → IsSpelled word bits place value
    → IsSpelled word bits (length bits) value
spelled_all word bits place value high low spelled =
    let size : place ≡ length bits = omega arith in
    subst (λ (n : ℕ). IsSpelled word bits n value) size spelled

pub spelled_words : (word : ℕ) (bits : List ℕ) (value : ℕ) → IsSpelled word bits (length bits) value → symbol_of (length bits) value ≡ map (bit word) bits
spelled_words word bits value spelled = spelled.spelled ∙ ap (map (bit word)) (take_all (length bits) bits (omega arith))
