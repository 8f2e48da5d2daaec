-- The ends of a cube, and where two cubes differ.
use Rattle.std.proofs.Common.{◌≡◌, ℕ, ◌+◌, ◌-◌, ◌%◌, ◌^◌, ◌<◌, ◌≤◌, min, max, true, inl, inr, ap, sym, ◌∙◌, subst, arith, bit_and, bit_or}
use Rattle.std.proofs.lemmas.Bool.{cases_eq, cases_lt}
use Rattle.std.proofs.lemmas.Nat.{and_le_l, and_le_r, and-not, and_comm, or_disjoint}
use Rattle.std.proofs.lemmas.Nat.Bits.{bit_at_and, bit_at_or, bit_at_above, bit_at-lt, bit_at-zero, bit_at-trailing_zeros, same_from_bits}
use Rattle.std.proofs.Math.Nat.{pow-le-pow_right}
use Rattle.std.specs.Int.{bit_at, w32, trailing_zeros}
use Rattle.std.specs.Int.Bits.{and_self}
use Rattle.std.specs.Int.RustNames.{bit_xor}
use Rattle.cubes.specs.declared.cube.Cube.{Cube}
use Rattle.cubes.specs.Symbol.{bit, number_of}
use Rattle.cubes.specs.Cube.{DiffersAtPlace, HoldsNumber, Meets, greatest_of, clash_of}
use Rattle.cubes.specs.Laws.Bits.{one_from_bit, bit_from_one, same_digits, same_bits}
use Rattle.cubes.specs.Laws.Held.{agrees_from_held, held_from_agrees, held_from_mask, mask_from_held}
use Rattle.cubes.specs.Laws.Meeting.{clash_digit, kept_digit, meets_from_clash, number_of_held}

-- the least symbol
pub least_held : (c : Cube) → HoldsNumber c c.value
least_held c = held_from_mask c c.value (and_comm c.value c.care ∙ c.value_in_care)

pub value_le : (c : Cube) (x : ℕ) → HoldsNumber c x → c.value ≤ x
value_le c x h = subst (λ n. n ≤ x) (mask_from_held c x h) (and_le_l x c.care)

-- the greatest symbol
pub le_greatest : (c : Cube) (x : ℕ) → x < 2 ^ c.width → HoldsNumber c x → x ≤ greatest_of c
le_greatest c x lt h =
    let split : bit_and (2 ^ c.width - 1 - c.care) x + bit_and c.care x ≡ x = and-not c.width c.care x c.care_in_width lt in
    let masked : bit_and c.care x ≡ c.value = and_comm c.care x ∙ mask_from_held c x h in
    let free : bit_and (2 ^ c.width - 1 - c.care) x ≤ 2 ^ c.width - 1 - c.care = and_le_l (2 ^ c.width - 1 - c.care) x in
    omega (arith, split, masked, free)

pub value_le_care : (c : Cube) → c.value ≤ c.care
value_le_care c = subst (λ n. n ≤ c.care) c.value_in_care (and_le_l c.care c.value)

pub greatest_within : (c : Cube) → greatest_of c < 2 ^ c.width
greatest_within c = omega (arith, value_le_care c, c.care_in_width)

-- ---- one place, by its digits
digit_self : (a f : ℕ) → min f a ≡ 0 → a ≡ 1 → f ≡ 0
digit_self a f apart one = grind arith

digit_apart : (a f v : ℕ) → min f a ≡ 0 → v ≡ min a v → min v f ≡ 0
digit_apart a f v apart kept = grind arith

digit_clash : (a b v w : ℕ) → a < 2 → b < 2 → min (min ((v + w) % 2) a) b ≡ 1 → (a ≡ 1) × (b ≡ 1)
digit_clash a b v w la lb one = (omega arith, omega arith)

digit_differs : (a b v w : ℕ) → v < 2 → min (min ((v + w) % 2) a) b ≡ 1 → v ≡ w → ⊥
digit_differs a b v w lv one same = grind arith

module _ (c : Cube) where
  free : ℕ
  free = 2 ^ c.width - 1 - c.care

  -- the dashes and the care share no bit
  free_apart : bit_and free c.care ≡ 0
  unfolding free
  free_apart =
      let split : bit_and (2 ^ c.width - 1 - c.care) c.care + bit_and c.care c.care ≡ c.care = and-not c.width c.care c.care c.care_in_width c.care_in_width in
      let whole : bit_and c.care c.care ≡ c.care = and_self c.care in
      omega (arith, split, whole)

  free_digit : (k : ℕ) → min (bit_at free k) (bit_at c.care k) ≡ 0
  free_digit k = sym (bit_at_and free c.care k) ∙ ap (λ n. bit_at n k) free_apart ∙ bit_at-zero k

  value_apart : bit_and c.value free ≡ 0
  value_apart = same_from_bits (bit_and c.value free) 0
      (λ k. bit_at_and c.value free k ∙ digit_apart (bit_at c.care k) (bit_at free k) (bit_at c.value k) (free_digit k) (kept_digit c k) ∙ sym (bit_at-zero k))

  pub greatest_held : HoldsNumber c (greatest_of c)
  unfolding free
  greatest_held = held_from_agrees c (greatest_of c) each where
    digit_max : (g v f : ℕ) → g ≡ max v f → f ≡ 0 → v ≡ g
    digit_max g v f e none = omega arith

    each : (k : ℕ) → k < c.width → bit c.care k ≡ true → bit c.value k ≡ bit (greatest_of c) k
    each k lt cares =
        let none : bit_at free k ≡ 0 = digit_self (bit_at c.care k) (bit_at free k) (free_digit k) (one_from_bit c.care k cares) in
        let joined : bit_or c.value free ≡ greatest_of c = or_disjoint c.value free value_apart in
        let digit : bit_at (greatest_of c) k ≡ max (bit_at c.value k) (bit_at free k) = sym (ap (λ n. bit_at n k) joined) ∙ bit_at_or c.value free k in
        same_bits c.value (greatest_of c) k k (digit_max (bit_at (greatest_of c) k) (bit_at c.value k) (bit_at free k) digit none)

-- ---- where two cubes differ
module _ (c d : Cube) (widths : c.width ≡ d.width) where
  pub meets_not_from_difference : DiffersAtPlace c d → Meets c d → ⊥
  meets_not_from_difference h m =
      let number : ℕ = number_of m.0 in
      h.4
      (agrees_from_held c number (number_of_held c m.0 m.1) h.0 h.1 h.2
      ∙ sym (agrees_from_held d number (number_of_held d m.0 m.2) h.0 (subst (λ w. h.0 < w) widths h.1) h.3))

  pub difference_from_clash : (k : ℕ) → bit_at (clash_of c d) k ≡ 1 → DiffersAtPlace c d
  difference_from_clash k one =
      let digit : min (min ((bit_at c.value k + bit_at d.value k) % 2) (bit_at c.care k)) (bit_at d.care k) ≡ 1 = sym (clash_digit c d k) ∙ one in
      let cares = digit_clash (bit_at c.care k) (bit_at d.care k) (bit_at c.value k) (bit_at d.value k) (bit_at-lt c.care k) (bit_at-lt d.care k) digit in (
        k,
        within cares.0,
        bit_from_one c.care k cares.0,
        bit_from_one d.care k cares.1,
        λ same. digit_differs (bit_at c.care k) (bit_at d.care k) (bit_at c.value k) (bit_at d.value k) (bit_at-lt c.value k) digit (same_digits c.value d.value k k same),
      ) where
        within : bit_at c.care k ≡ 1 → k < c.width
        within cares =
            elim (cases_lt k c.width) [
              | inl lt ↦ lt
              | inr high ↦ let none : bit_at c.care k ≡ 0 = bit_at_above c.care c.width k c.care_in_width high in absurd (omega arith)
            ]

  pub difference : (Meets c d → ⊥) → DiffersAtPlace c d
  difference apart =
      elim (cases_eq (clash_of c d) 0) [
        | inl none ↦ absurd (apart (meets_from_clash c d widths none))
        | inr some ↦
            let positive : 0 < clash_of c d = omega (arith, some) in
            let found = bit_at-trailing_zeros w32 (clash_of c d) positive clash_fits in
            difference_from_clash (trailing_zeros w32 (clash_of c d)) found.1
      ] where
        clash_fits : clash_of c d < 2 ^ 32
        clash_fits =
            let two : 0 < 2 = omega arith in
            let bound : 2 ^ d.width ≤ 2 ^ 32 = pow-le-pow_right two d.width_bound in
            omega (arith, and_le_r (bit_and (bit_xor c.value d.value) c.care) d.care, d.care_in_width, bound)
