-- Two cubes of one width share a symbol where no place with both cares has two values.
use Rattle.std.proofs.Common.{◌≡◌, ℕ, ◌+◌, ◌%◌, ◌<◌, min, max, Bool, List, length, inl, inr, ap, sym, ◌∙◌, arith, bit_and, eqb}
use Rattle.std.proofs.lemmas.Bool.{cases_lt}
use Rattle.std.proofs.lemmas.Nat.Bits.{bit_at_and, bit_at_or, bit_at_xor, bit_at-lt, bit_at_above, bit_at-zero, same_from_bits}
use Rattle.std.specs.Int.{bit_at}
use Rattle.std.specs.Int.RustNames.{bit_or, bit_xor}
use Rattle.cubes.specs.declared.cube.Cube.{Cube}
use Rattle.cubes.specs.Symbol.{symbol_of, number_of}
use Rattle.cubes.specs.Cube.{Holds, HoldsNumber, Meets, field_of, clash_of}
use Rattle.cubes.specs.Laws.Places.{length-characters, length_allowed}
use Rattle.cubes.specs.Laws.Bits.{one_from_bit, same_digits, same_bits}
use Rattle.cubes.specs.Laws.Numbers.{symbol_of-number_of}
use Rattle.cubes.specs.Laws.Held.{Agrees, agrees_from_held, held_from_agrees}

-- ---- one place, by its digits
digits_first : (a b v w : ℕ) → a < 2 → b < 2 → v < 2 → w < 2 → min (min ((v + w) % 2) a) b ≡ 0 → w ≡ min b w → a ≡ 1 → v ≡ max v w
digits_first a b v w la lb lv lw clash kept one = grind arith

digits_second : (a b v w : ℕ) → a < 2 → b < 2 → v < 2 → w < 2 → min (min ((v + w) % 2) a) b ≡ 0 → v ≡ min a v → b ≡ 1 → w ≡ max v w
digits_second a b v w la lb lv lw clash kept one = grind arith

digits_same : (a b v w x : ℕ) → a < 2 → b < 2 → x < 2 → (a ≡ 1 → v ≡ x) → (b ≡ 1 → w ≡ x) → min (min ((v + w) % 2) a) b ≡ 0
digits_same a b v w x la lb lx first second = grind arith

module _ (c d : Cube) (k : ℕ) where
  pub clash_digit : bit_at (clash_of c d) k ≡ min (min ((bit_at c.value k + bit_at d.value k) % 2) (bit_at c.care k)) (bit_at d.care k)
  clash_digit =
      bit_at_and (bit_and (bit_xor c.value d.value) c.care) d.care k
      ∙ ap (λ n. min n (bit_at d.care k)) (bit_at_and (bit_xor c.value d.value) c.care k ∙ ap (λ n. min n (bit_at c.care k)) (bit_at_xor c.value d.value k))

-- a bit of the value stands at a place with care
pub kept_digit : (c : Cube) (k : ℕ) → bit_at c.value k ≡ min (bit_at c.care k) (bit_at c.value k)
kept_digit c k = sym (ap (λ n. bit_at n k) c.value_in_care) ∙ bit_at_and c.care c.value k

-- where nothing clashes, both cubes hold the number with the bits of both values
pub first_holds_both : (c d : Cube) → clash_of c d ≡ 0 → Agrees c (bit_or c.value d.value)
first_holds_both c d none k lt cares =
    let clash : min (min ((bit_at c.value k + bit_at d.value k) % 2) (bit_at c.care k)) (bit_at d.care k) ≡ 0 =
    sym (clash_digit c d k) ∙ ap (λ n. bit_at n k) none ∙ bit_at-zero k in
    same_bits c.value (bit_or c.value d.value) k k
    (digits_first (bit_at c.care k) (bit_at d.care k) (bit_at c.value k) (bit_at d.value k)
    (bit_at-lt c.care k) (bit_at-lt d.care k) (bit_at-lt c.value k) (bit_at-lt d.value k)
    clash (kept_digit d k) (one_from_bit c.care k cares)
    ∙ sym (bit_at_or c.value d.value k))

pub second_holds_both : (c d : Cube) → clash_of c d ≡ 0 → Agrees d (bit_or c.value d.value)
second_holds_both c d none k lt cares =
    let clash : min (min ((bit_at c.value k + bit_at d.value k) % 2) (bit_at c.care k)) (bit_at d.care k) ≡ 0 =
    sym (clash_digit c d k) ∙ ap (λ n. bit_at n k) none ∙ bit_at-zero k in
    same_bits d.value (bit_or c.value d.value) k k
    (digits_second (bit_at c.care k) (bit_at d.care k) (bit_at c.value k) (bit_at d.value k)
    (bit_at-lt c.care k) (bit_at-lt d.care k) (bit_at-lt c.value k) (bit_at-lt d.value k)
    clash (kept_digit c k) (one_from_bit d.care k cares)
    ∙ sym (bit_at_or c.value d.value k))

-- two cubes that agree with one number do not clash
pub clash_of-agreed : (c d : Cube) (number : ℕ) → c.width ≡ d.width → Agrees c number → Agrees d number → clash_of c d ≡ 0
clash_of-agreed c d number widths first second = same_from_bits (clash_of c d) 0 each where
  each : (k : ℕ) → bit_at (clash_of c d) k ≡ bit_at 0 k
  each k =
      elim (cases_lt k c.width) [
        | inl lt ↦
            clash_digit c d k
            ∙ digits_same (bit_at c.care k) (bit_at d.care k) (bit_at c.value k) (bit_at d.value k) (bit_at number k)
            (bit_at-lt c.care k) (bit_at-lt d.care k) (bit_at-lt number k)
            (λ one. same_digits c.value number k k (first k lt (ap (λ n. eqb n 1) one)))
            (λ one. same_digits d.value number k k (second k (omega arith) (ap (λ n. eqb n 1) one)))
            ∙ sym (bit_at-zero k)
        | inr high ↦
            let none : bit_at c.care k ≡ 0 = bit_at_above c.care c.width k c.care_in_width high in
            let digit : bit_at (clash_of c d) k ≡ min (min ((bit_at c.value k + bit_at d.value k) % 2) (bit_at c.care k)) (bit_at d.care k) = clash_digit c d k in
            let zeros : bit_at 0 k ≡ 0 = bit_at-zero k in
            grind (arith, digit, none, zeros)
      ]

-- a held symbol has as many bits as the cube has characters
pub length_of_held : (c : Cube) (symbol : List Bool) → Holds c symbol → length symbol ≡ c.width
unfolding Holds
length_of_held c symbol h = sym (length_allowed (field_of c) symbol h) ∙ length-characters c.width c.care c.value

pub number_of_held : (c : Cube) (symbol : List Bool) → Holds c symbol → HoldsNumber c (number_of symbol)
number_of_held c symbol h =
    let same : symbol_of c.width (number_of symbol) ≡ symbol =
    rw (length_of_held c symbol h) at (symbol_of-number_of symbol) in
    rw same h

pub meets_from_clash : (c d : Cube) → c.width ≡ d.width → clash_of c d ≡ 0 → Meets c d
meets_from_clash c d widths none = (
  symbol_of c.width (bit_or c.value d.value),
  held_from_agrees c (bit_or c.value d.value) (first_holds_both c d none),
  rw widths (held_from_agrees d (bit_or c.value d.value) (second_holds_both c d none)),
)

pub clash_from_meets : (c d : Cube) → c.width ≡ d.width → Meets c d → clash_of c d ≡ 0
clash_from_meets c d widths m =
    clash_of-agreed c d (number_of m.0) widths
    (agrees_from_held c (number_of m.0) (number_of_held c m.0 m.1))
    (agrees_from_held d (number_of m.0) (number_of_held d m.0 m.2))
