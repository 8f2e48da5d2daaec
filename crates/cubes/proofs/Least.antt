-- The least gap of a region, by its halves.
use Rattle.std.proofs.Common.{◌≡◌, ℕ, ◌+◌, ◌*◌, ◌/◌, ◌%◌, ◌^◌, ◌<◌, ◌≤◌, ◌||◌, Bool, true, false, inl, inr, List, ap, sym, ◌∙◌, subst, arith}
use Rattle.std.proofs.lemmas.Bool.{cases_Bool, false≢true}
use Rattle.std.proofs.lemmas.Nat.{le-div, pow_pos, shr-shr, shr_below}
use Rattle.std.proofs.Math.Nat.{div-mul-le_self}
use Rattle.std.specs.Int.{bit_at}
use Rattle.cubes.specs.declared.cube.Cube.{Cube}
use Rattle.cubes.specs.Symbol.{bit}
use Rattle.cubes.specs.Cube.{HoldsNumber}
use Rattle.cubes.specs.Gap.{HoldsEach, IsFirstGap}
use Rattle.cubes.specs.Inner.Region.{HasDashesBelow, HoldsRegion, IsGapIn, IsHalfOf, IsLeastGapIn}
use Rattle.cubes.specs.Laws.Bits.{bit-or, bit-zero, one_from_bit, same_digits, zero_from_bit}
use Rattle.cubes.specs.Laws.Held.{held_from_agrees}
use Rattle.cubes.proofs.Narrowing.{place_of_power}

-- one place lower, a number has twice its part and its bit
part_and_bit : (n place : ℕ) → n / 2 ^ place ≡ 2 * (n / 2 ^ (place + 1)) + bit_at n place
part_and_bit n place =
    let lower : n / 2 ^ place / 2 ^ 1 ≡ n / 2 ^ (place + 1) = shr-shr n place 1 in
    split (n / 2 ^ place) ∙ ap (λ q. 2 * q + bit_at n place) lower where
      split : (q : ℕ) → q ≡ 2 * (q / 2) + q % 2
      split q = omega arith

part_le : (m n place : ℕ) → m ≤ n → m / 2 ^ place ≤ n / 2 ^ place
part_le m n place le = le-div (m / 2 ^ place) n (2 ^ place) (pow_pos place) (omega (arith, le, div-mul-le_self m (2 ^ place)))

-- of two numbers alike above a place, the one with a 1 there is greater
above_with_one : (m n place : ℕ) → m / 2 ^ (place + 1) ≡ n / 2 ^ (place + 1) → bit m place ≡ true → bit n place ≡ false → m < n → ⊥
above_with_one m n place alike one none lt =
    let first : bit_at m place ≡ 1 = one_from_bit m place one in
    let second : bit_at n place ≡ 0 = zero_from_bit n place none in
    let le : m / 2 ^ place ≤ n / 2 ^ place = part_le m n place (omega (arith, lt)) in
    omega (arith, part_and_bit m place, part_and_bit n place, alike, first, second, le)

-- ---- the halves of a region
module _ (region half : Cube) (place : ℕ) (b : Bool) (is : IsHalfOf region half place b) where
  pub dashes_below_half : HasDashesBelow region (place + 1) → HasDashesBelow half place
  dashes_below_half shape = record { dashes = dashes; alike = alike } where
    dashes : (k : ℕ) → k < place → bit half.care k ≡ false
    dashes k lt =
        elim (cases_Bool (bit (2 ^ place) k)) [
          | inl one ↦ let here : k ≡ place = place_of_power place k one in absurd (omega (arith, here, lt))
          | inr none ↦ ap (λ n. bit n k) is.care ∙ bit-or region.care (2 ^ place) k ∙ ap (λ c. c || bit (2 ^ place) k) (shape.dashes k (omega (arith, lt))) ∙ none
        ]

    alike : (x y : ℕ) → x < 2 ^ half.width → y < 2 ^ half.width → HoldsNumber half x → HoldsNumber half y → x / 2 ^ place ≡ y / 2 ^ place
    alike x y x_lt y_lt x_held y_held =
        let first = is.from x x_held in
        let second = is.from y y_held in
        let above : x / 2 ^ (place + 1) ≡ y / 2 ^ (place + 1) =
        shape.alike x y (subst (λ (w : ℕ). x < 2 ^ w) is.width x_lt) (subst (λ (w : ℕ). y < 2 ^ w) is.width y_lt) first.0 second.0 in
        let same : bit_at x place ≡ bit_at y place = same_digits x y place place (first.1 ∙ sym second.1) in
        omega (arith, part_and_bit x place, part_and_bit y place, above, same)

module _ (list : List Cube) (region low : Cube) (place : ℕ) (is_low : IsHalfOf region low place false) where
  -- the least gap of the lower half, where it has one
  pub least_of_low : HasDashesBelow region (place + 1) → (gap : ℕ) → IsLeastGapIn list low gap → IsLeastGapIn list region gap
  least_of_low shape gap h = record {
    gap = record { within = within; inside = (is_low.from gap h.gap.inside).0; without = h.gap.without };
    least = λ lesser held lt.
        elim (cases_Bool (bit lesser place)) [
          | inl one ↦
              absurd
              (above_with_one lesser gap place
              (shape.alike lesser gap (omega (arith, lt, within)) within held (is_low.from gap h.gap.inside).0)
              one (is_low.from gap h.gap.inside).1 lt)
          | inr zero_here ↦ h.least lesser (is_low.to lesser held zero_here) lt
        ];
  } where
    within : gap < 2 ^ region.width
    within = subst (λ (w : ℕ). gap < 2 ^ w) is_low.width h.gap.within

module _ (list : List Cube) (region low high : Cube) (place : ℕ) (is_low : IsHalfOf region low place false) (is_high : IsHalfOf region high place true) where
  -- a gap of the region is one of its upper half where the lower has none
  pub gap_in_high : (gap : ℕ) → IsGapIn list region gap → HoldsRegion list low → IsGapIn list high gap
  gap_in_high gap h none = record {
    within = subst (λ (w : ℕ). gap < 2 ^ w) (sym is_high.width) h.within;
    inside = elim (cases_Bool (bit gap place)) [
      | inl one ↦ is_high.to gap h.inside one
      | inr zero_here ↦ absurd (h.without (none gap (is_low.to gap h.inside zero_here)))
    ];
    without = h.without;
  }

  -- and that of the upper where the lower has none
  pub least_of_high : HoldsRegion list low → (gap : ℕ) → IsLeastGapIn list high gap → IsLeastGapIn list region gap
  least_of_high none gap h = record {
    gap = record {
      within = subst (λ (w : ℕ). gap < 2 ^ w) is_high.width h.gap.within;
      inside = (is_high.from gap h.gap.inside).0;
      without = h.gap.without;
    };
    least = λ lesser held lt.
        elim (cases_Bool (bit lesser place)) [
          | inl one ↦ h.least lesser (is_high.to lesser held one) lt
          | inr zero_here ↦ none lesser (is_low.to lesser held zero_here)
        ];
  }

-- a region of one symbol
pub least_of_one : (list : List Cube) (region : Cube) (places gap : ℕ) → places ≡ 0 → HasDashesBelow region places → IsGapIn list region gap → IsLeastGapIn list region gap
least_of_one list region places gap none shape h = record {
  gap = h;
  least = λ lesser held lt.
      let alike : lesser / 2 ^ places ≡ gap / 2 ^ places = shape.alike lesser gap (omega (arith, lt, h.within)) h.within held h.inside in
      let same : lesser / 1 ≡ gap / 1 = rw none at alike in
      absurd (omega (arith, same, lt));
}

-- ---- the region of all symbols
module _ (list : List Cube) (whole : Cube) (care : whole.care ≡ 0) where
  pub whole_holds : (x : ℕ) → HoldsNumber whole x
  whole_holds x =
      held_from_agrees whole x (λ k lt cares. absurd (false≢true (sym (bit-zero k) ∙ ap (λ n. bit n k) (sym care) ∙ cares)))

  pub whole_shape : HasDashesBelow whole whole.width
  whole_shape = record {
    dashes = λ k lt. ap (λ n. bit n k) care ∙ bit-zero k;
    alike = λ x y x_lt y_lt x_held y_held. none x x_lt ∙ sym (none y y_lt);
  } where
    none : (x : ℕ) → x < 2 ^ whole.width → x / 2 ^ whole.width ≡ 0
    none x lt = let below : x / 2 ^ whole.width < 2 ^ 0 = shr_below x 0 whole.width (subst (λ n. x < 2 ^ n) (omega arith) lt) in omega (arith, below)

  pub first_from_least : (gap : ℕ) → IsLeastGapIn list whole gap → IsFirstGap list whole.width gap
  first_from_least gap h = record {
    within = h.gap.within;
    without = h.gap.without;
    least = λ number lt. h.least number (whole_holds number) lt;
  }

  pub each_from_region : HoldsRegion list whole → HoldsEach list whole.width
  each_from_region h number lt = h number (whole_holds number)
