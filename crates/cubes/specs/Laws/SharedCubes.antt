-- What two cubes share, and the halves of a cube.
use Rattle.std.proofs.Common.{◌≡◌, ◌≢◌, ℕ, ◌+◌, ◌%◌, ◌<◌, ◌≤◌, ◌^◌, ◌⊎◌, min, max, true, false, inl, inr, sym, ◌∙◌, subst, arith, ap, bit_and, bit_or}
use Rattle.std.proofs.Math.Nat.{pow-le-pow_right}
use Rattle.std.proofs.lemmas.Bool.{cases_lt, cases_eq}
use Rattle.std.proofs.lemmas.Nat.{and_le_l, or_disjoint, or_lt, pow_pos, pow_below}
use Rattle.std.proofs.lemmas.Nat.Bits.{bit_at_and, bit_at_or, bit_at_xor, bit_at-lt, bit_at_above, bit_at-zero, bit_at-pow_other, bit_at-trailing_zeros, same_from_bits}
use Rattle.std.specs.Int.{bit_at, w32, trailing_zeros}
use Rattle.std.specs.Int.RustNames.{bit_xor}
use Rattle.cubes.specs.declared.cube.Cube.{Cube}
use Rattle.cubes.specs.Cube.{Holds, HoldsNumber, Meets}
use Rattle.cubes.specs.Symbol.{bit, symbol_of}
use Rattle.cubes.specs.Laws.Bits.{one_from_bit, zero_from_bit, bit_from_one, bit_from_zero}
use Rattle.cubes.specs.Laws.Ends.{value_le_care}
use Rattle.cubes.specs.Laws.Held.{agrees_from_held, held_from_agrees, mask_from_held}
use Rattle.cubes.specs.Laws.Meeting.{clash_from_meets, first_holds_both, second_holds_both}

-- ---- the least symbol that both hold
module _ (c d : Cube) (widths : c.width ≡ d.width) (meets : Meets c d) where
  pub first_holds : HoldsNumber c (bit_or c.value d.value)
  first_holds = held_from_agrees c (bit_or c.value d.value) (first_holds_both c d (clash_from_meets c d widths meets))

  pub second_holds : HoldsNumber d (bit_or c.value d.value)
  second_holds = held_from_agrees d (bit_or c.value d.value) (second_holds_both c d (clash_from_meets c d widths meets))

pub value_below : (c : Cube) → c.value < 2 ^ c.width
value_below c = omega (arith, value_le_care c, c.care_in_width)

pub least_below : (c d : Cube) → c.width ≡ d.width → bit_or c.value d.value < 2 ^ c.width
least_below c d widths = or_lt c.width c.value d.value (value_below c) (subst (λ w. d.value < 2 ^ w) (sym widths) (value_below d))

-- any symbol that both hold has the bits of both values
pub least_le : (c d : Cube) (y : ℕ) → HoldsNumber c y → HoldsNumber d y → bit_or c.value d.value ≤ y
least_le c d y first second =
    subst (λ n. n ≤ y) (same_from_bits (bit_and y (bit_or c.care d.care)) (bit_or c.value d.value) each) (and_le_l y (bit_or c.care d.care)) where
      digits : (a b x v w : ℕ) → min x a ≡ v → min x b ≡ w → min x (max a b) ≡ max v w
      digits a b x v w one two = grind arith

      each : (k : ℕ) → bit_at (bit_and y (bit_or c.care d.care)) k ≡ bit_at (bit_or c.value d.value) k
      each k =
          bit_at_and y (bit_or c.care d.care) k
          ∙ ap (λ n. min (bit_at y k) n) (bit_at_or c.care d.care k)
          ∙ digits (bit_at c.care k) (bit_at d.care k) (bit_at y k) (bit_at c.value k) (bit_at d.value k)
          (sym (bit_at_and y c.care k) ∙ ap (λ n. bit_at n k) (mask_from_held c y first))
          (sym (bit_at_and y d.care k) ∙ ap (λ n. bit_at n k) (mask_from_held d y second))
          ∙ sym (bit_at_or c.value d.value k)

-- two cubes that hold one number share its symbol
pub meets_from_held : (c d : Cube) (y : ℕ) → c.width ≡ d.width → HoldsNumber c y → HoldsNumber d y → Meets c d
meets_from_held c d y widths first second = (symbol_of c.width y, first, subst (λ (w : ℕ). Holds d (symbol_of w y)) (sym widths) second)

-- ---- the places at which the second looks and the first does not
abbrev pub free_of : Cube → Cube → ℕ
free_of c d = bit_and d.care (bit_xor d.care c.care)

module _ (c d : Cube) (k : ℕ) where
  free_digit : bit_at (free_of c d) k ≡ min (bit_at d.care k) ((bit_at d.care k + bit_at c.care k) % 2)
  free_digit = bit_at_and d.care (bit_xor d.care c.care) k ∙ ap (λ n. min (bit_at d.care k) n) (bit_at_xor d.care c.care k)

  digit_one : (a b : ℕ) → a < 2 → b < 2 → min b ((b + a) % 2) ≡ 1 → (b ≡ 1) × (a ≡ 0)
  digit_one a b la lb one = grind arith

  digit_none : (a b : ℕ) → a < 2 → b < 2 → min b ((b + a) % 2) ≡ 0 → b ≡ 1 → a ≡ 1
  digit_none a b la lb none one = grind arith

  pub free_is_dash : bit_at (free_of c d) k ≡ 1 → (bit_at d.care k ≡ 1) × (bit_at c.care k ≡ 0)
  free_is_dash one = digit_one (bit_at c.care k) (bit_at d.care k) (bit_at-lt c.care k) (bit_at-lt d.care k) (sym free_digit ∙ one)

  -- a place that is not free, and at which the second looks, is one at which the first does
  pub not_free : bit_at (free_of c d) k ≡ 0 → bit d.care k ≡ true → bit c.care k ≡ true
  not_free none cares =
      bit_from_one c.care k
      (digit_none (bit_at c.care k) (bit_at d.care k) (bit_at-lt c.care k) (bit_at-lt d.care k)
      (sym free_digit ∙ none) (one_from_bit d.care k cares))

  pub none_free : free_of c d ≡ 0 → bit d.care k ≡ true → bit c.care k ≡ true
  none_free none = not_free (ap (λ n. bit_at n k) none ∙ bit_at-zero k)

-- the lowest place that is free
module _ (c d : Cube) (widths : c.width ≡ d.width) (some : free_of c d ≢ 0) where
  free_fits : free_of c d < 2 ^ 32
  free_fits =
      let two : 0 < 2 = omega arith in
      let bound : 2 ^ d.width ≤ 2 ^ 32 = pow-le-pow_right two d.width_bound in
      omega (arith, and_le_l d.care (bit_xor d.care c.care), d.care_in_width, bound)

  positive : 0 < free_of c d
  positive = omega (arith, some)

  at_lowest : (bit_at d.care (trailing_zeros w32 (free_of c d)) ≡ 1) × (bit_at c.care (trailing_zeros w32 (free_of c d)) ≡ 0)
  at_lowest = free_is_dash c d (trailing_zeros w32 (free_of c d)) ((bit_at-trailing_zeros w32 (free_of c d) positive free_fits).1)

  pub other_at : bit d.care (trailing_zeros w32 (free_of c d)) ≡ true
  other_at = bit_from_one d.care (trailing_zeros w32 (free_of c d)) at_lowest.0

  pub none_before : (k : ℕ) → k < trailing_zeros w32 (free_of c d) → bit d.care k ≡ true → bit c.care k ≡ true
  none_before k below = not_free c d k ((bit_at-trailing_zeros w32 (free_of c d) positive free_fits).2 k below)

  pub dash_at : bit c.care (trailing_zeros w32 (free_of c d)) ≡ false
  dash_at = bit_from_zero c.care (trailing_zeros w32 (free_of c d)) at_lowest.1

  pub within_at : trailing_zeros w32 (free_of c d) < c.width
  within_at =
      elim (cases_lt (trailing_zeros w32 (free_of c d)) c.width) [
        | inl inside ↦ inside
        | inr past ↦
            let none : bit_at d.care (trailing_zeros w32 (free_of c d)) ≡ 0 =
            bit_at_above d.care d.width (trailing_zeros w32 (free_of c d)) d.care_in_width (omega arith) in
            absurd (omega (arith, at_lowest.0, none))
      ]

-- a cube that looks at each place of another that it meets lies inside it
pub inside_of : (c d : Cube) → c.width ≡ d.width → Meets c d → free_of c d ≡ 0 → (y : ℕ) → HoldsNumber c y → HoldsNumber d y
inside_of c d widths meets none y held = held_from_agrees d y each where
  shared : ℕ
  shared = bit_or c.value d.value

  each : (k : ℕ) → k < d.width → bit d.care k ≡ true → bit d.value k ≡ bit y k
  each k lt cares =
      let inside : k < c.width = subst (λ w. k < w) (sym widths) lt in
      let looks : bit c.care k ≡ true = none_free c d k none cares in
      agrees_from_held d (bit_or c.value d.value) (second_holds c d widths meets) k lt cares
      ∙ sym (agrees_from_held c (bit_or c.value d.value) (first_holds c d widths meets) k inside looks)
      ∙ agrees_from_held c y held k inside looks

-- ---- the half of a cube
module _ (c : Cube) (place : ℕ) (within : place < c.width) (dash : bit c.care place ≡ false) where
  none_left : (n : ℕ) → min 0 n ≡ 0
  none_left n = omega arith

  none_right : (n : ℕ) → min n 0 ≡ 0
  none_right n = omega arith

  apart_digit : (k : ℕ) → min (bit_at c.care k) (bit_at (2 ^ place) k) ≡ 0
  apart_digit k =
      elim (cases_eq k place) [
        | inl same ↦
            ap (λ n. min (bit_at c.care n) (bit_at (2 ^ place) n)) same
            ∙ ap (λ n. min n (bit_at (2 ^ place) place)) (zero_from_bit c.care place dash) ∙ none_left (bit_at (2 ^ place) place)
        | inr other ↦ ap (λ n. min (bit_at c.care k) n) (bit_at-pow_other place k other) ∙ none_right (bit_at c.care k)
      ]

  apart_from_care : bit_and c.care (2 ^ place) ≡ 0
  apart_from_care = same_from_bits (bit_and c.care (2 ^ place)) 0 (λ k. bit_at_and c.care (2 ^ place) k ∙ apart_digit k ∙ sym (bit_at-zero k))

  pub care_grows : c.care < bit_or c.care (2 ^ place)
  care_grows = omega (arith, or_disjoint c.care (2 ^ place) apart_from_care, pow_pos place)

  pub care_in_half : bit_or c.care (2 ^ place) < 2 ^ c.width
  care_in_half = or_lt c.width c.care (2 ^ place) c.care_in_width (pow_below place c.width within)

  value_digit : (k : ℕ) → bit_at c.value k ≡ min (bit_at c.care k) (bit_at c.value k)
  value_digit k = sym (ap (λ n. bit_at n k) c.value_in_care) ∙ bit_at_and c.care c.value k

  digits_high : (a v p : ℕ) → v ≡ min a v → min (max a p) (max v p) ≡ max v p
  digits_high a v p kept = grind arith

  digits_low : (a v p : ℕ) → v ≡ min a v → min (max a p) v ≡ v
  digits_low a v p kept = grind arith

  pub value_in_high : bit_and (bit_or c.care (2 ^ place)) (bit_or c.value (2 ^ place)) ≡ bit_or c.value (2 ^ place)
  value_in_high = same_from_bits (bit_and (bit_or c.care (2 ^ place)) (bit_or c.value (2 ^ place))) (bit_or c.value (2 ^ place))
      (λ k. bit_at_and (bit_or c.care (2 ^ place)) (bit_or c.value (2 ^ place)) k
      ∙ ap (λ n. min n (bit_at (bit_or c.value (2 ^ place)) k)) (bit_at_or c.care (2 ^ place) k)
      ∙ ap (λ n. min (max (bit_at c.care k) (bit_at (2 ^ place) k)) n) (bit_at_or c.value (2 ^ place) k)
      ∙ digits_high (bit_at c.care k) (bit_at c.value k) (bit_at (2 ^ place) k) (value_digit k)
      ∙ sym (bit_at_or c.value (2 ^ place) k))

  pub value_in_low : bit_and (bit_or c.care (2 ^ place)) c.value ≡ c.value
  value_in_low = same_from_bits (bit_and (bit_or c.care (2 ^ place)) c.value) c.value
      (λ k. bit_at_and (bit_or c.care (2 ^ place)) c.value k
      ∙ ap (λ n. min n (bit_at c.value k)) (bit_at_or c.care (2 ^ place) k)
      ∙ digits_low (bit_at c.care k) (bit_at c.value k) (bit_at (2 ^ place) k) (value_digit k))

  pub value_in_half : (value : ℕ) → (value ≡ bit_or c.value (2 ^ place)) ⊎ (value ≡ c.value) → bit_and (bit_or c.care (2 ^ place)) value ≡ value
  value_in_half value (inl high) = ap (bit_and (bit_or c.care (2 ^ place))) high ∙ value_in_high ∙ sym high
  value_in_half value (inr low) = ap (bit_and (bit_or c.care (2 ^ place))) low ∙ value_in_low ∙ sym low
