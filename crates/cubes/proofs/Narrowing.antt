-- The parts of a region.
use Rattle.std.proofs.Common.{◌≡◌, ℕ, ◌-◌, ◌/◌, ◌%◌, ◌^◌, ◌<◌, ◌≤◌, Bool, true, false, ◌||◌, ◌&&◌, inl, inr, ap, sym, ◌∙◌, subst, refl, arith, bit_and, bit_or}
use Rattle.std.proofs.Math.Nat.{pow-le-pow_right}
use Rattle.std.proofs.lemmas.Bool.{cases_Bool, cases_eq, cases_lt, false≢true, true≢false}
use Rattle.std.proofs.lemmas.Nat.{div-add-mod', mod_below, or_disjoint, or_lt, pow_pos}
use Rattle.std.proofs.lemmas.Nat.Bits.{bit_at-pow_other, bit_at-pow_same, bit_at_above, bit_at_cat_low, same_from_bits}
use Rattle.std.specs.Int.{bit_at}
use Rattle.cubes.specs.declared.cube.Cube.{Cube}
use Rattle.cubes.specs.Symbol.{bit}
use Rattle.cubes.specs.Cube.{HoldsNumber}
use Rattle.cubes.specs.Inner.Region.{IsNarrowed, IsOpen}
use Rattle.cubes.specs.Laws.Bits.{bit-and, bit-or, bit-zero, bit_from_one, bit_from_zero, or_first, or_second, same_digits, zero_from_bit}
use Rattle.cubes.specs.Laws.Held.{agrees_from_held, held_from_agrees}

-- a number with bits at the lowest places alone is below the power of two
pub below_from_bits : (n places : ℕ) → ((k : ℕ) → bit n k ≡ true → k < places) → n < 2 ^ places
below_from_bits n places within = subst (λ m. m < 2 ^ places) (same_from_bits (n % 2 ^ places) n each) low where
  low : n % 2 ^ places < 2 ^ places
  low = mod_below n (2 ^ places) (pow_pos places)

  each : (k : ℕ) → bit_at (n % 2 ^ places) k ≡ bit_at n k
  each k =
      elim (cases_lt k places) [
        | inl lt ↦ sym (bit_at_cat_low (n / 2 ^ places) places (n % 2 ^ places) k lt) ∙ ap (λ m. bit_at m k) (div-add-mod' n (2 ^ places))
        | inr ge ↦
            elim (cases_Bool (bit n k)) [
              | inl one ↦ let lt : k < places = within k one in absurd (omega (arith, lt, ge))
              | inr none ↦ bit_at_above (n % 2 ^ places) places k low ge ∙ sym (zero_from_bit n k none)
            ]
      ]

-- the one bit of a power of two
pub power-bit : (place : ℕ) → bit (2 ^ place) place ≡ true
power-bit place = bit_from_one (2 ^ place) place (bit_at-pow_same place)

pub place_of_power : (place k : ℕ) → bit (2 ^ place) k ≡ true → k ≡ place
place_of_power place k one =
    elim (cases_eq k place) [
      | inl same ↦ same
      | inr other ↦ absurd (false≢true (sym (bit_from_zero (2 ^ place) k (bit_at-pow_other place k other)) ∙ one))
    ]

-- ---- one place, by its bits
or_none : (b : Bool) → (b || false) ≡ b
or_none true = refl
or_none false = refl

kept : (c u v w : Bool) → (c && v) ≡ v → (w ≡ true → u ≡ true) → ((c || u) && (v || w)) ≡ (v || w)
kept true u v w h inside = refl
kept false true v w h inside = refl
kept false false v true h inside = absurd (false≢true (inside refl))
kept false false false false h inside = refl
kept false false true false h inside = absurd (false≢true h)

apart : (c u : Bool) → (u ≡ true → c ≡ false) → (c && u) ≡ false
apart false u dashes = refl
apart true true dashes = dashes refl
apart true false dashes = refl

-- ---- bits at some dashes of a region
module _ (region : Cube) (places bits : ℕ) (dashes : (k : ℕ) → bit places k ≡ true → IsOpen region k) (inside : (k : ℕ) → bit bits k ≡ true → bit places k ≡ true) where
  -- a bit of the value stands at no dash
  value_kept : (k : ℕ) → (bit region.care k && bit region.value k) ≡ bit region.value k
  value_kept k = sym (bit-and region.care region.value k) ∙ ap (λ n. bit n k) region.value_in_care

  pub value_in_narrow : bit_and (bit_or region.care places) (bit_or region.value bits) ≡ bit_or region.value bits
  value_in_narrow =
      same_from_bits (bit_and (bit_or region.care places) (bit_or region.value bits)) (bit_or region.value bits)
      (λ k. same_digits (bit_and (bit_or region.care places) (bit_or region.value bits)) (bit_or region.value bits) k k
      (bit-and (bit_or region.care places) (bit_or region.value bits) k
      ∙ ap (λ b. b && bit (bit_or region.value bits) k) (bit-or region.care places k)
      ∙ ap (λ b. (bit region.care k || bit places k) && b) (bit-or region.value bits k)
      ∙ kept (bit region.care k) (bit places k) (bit region.value k) (bit bits k) (value_kept k) (inside k)
      ∙ sym (bit-or region.value bits k)))

  pub care_in_narrow : bit_or region.care places < 2 ^ region.width
  care_in_narrow = or_lt region.width region.care places region.care_in_width (below_from_bits places region.width (λ k one. (dashes k one).0))

  care_apart : bit_and region.care places ≡ 0
  care_apart =
      same_from_bits (bit_and region.care places) 0
      (λ k. same_digits (bit_and region.care places) 0 k k
      (bit-and region.care places k ∙ apart (bit region.care k) (bit places k) (λ one. (dashes k one).1) ∙ sym (bit-zero k)))

  care_grows : 0 < places → region.care < bit_or region.care places
  care_grows some = subst (λ n. region.care < n) (sym (or_disjoint region.care places care_apart)) (omega (arith, some))

  module _ (narrow : Cube) (width : narrow.width ≡ region.width) (care : narrow.care ≡ bit_or region.care places) (value : narrow.value ≡ bit_or region.value bits) where
    value_bit : (k : ℕ) → bit narrow.value k ≡ (bit region.value k || bit bits k)
    value_bit k = ap (λ n. bit n k) value ∙ bit-or region.value bits k

    value_in_region : (k : ℕ) → bit region.care k ≡ true → bit narrow.value k ≡ bit region.value k
    value_in_region k cares =
        elim (cases_Bool (bit bits k)) [
          | inl one ↦ absurd (true≢false (sym cares ∙ (dashes k (inside k one)).1))
          | inr none ↦ value_bit k ∙ ap (λ b. bit region.value k || b) none ∙ or_none (bit region.value k)
        ]

    value_in_places : (k : ℕ) → bit places k ≡ true → bit narrow.value k ≡ bit bits k
    value_in_places k one =
        let none : bit region.value k ≡ false = sym (value_kept k) ∙ ap (λ b. b && bit region.value k) (dashes k one).1 in
        value_bit k ∙ ap (λ b. b || bit bits k) none

    care_bit : (k : ℕ) → bit narrow.care k ≡ (bit region.care k || bit places k)
    care_bit k = ap (λ n. bit n k) care ∙ bit-or region.care places k

    within_narrow : (k : ℕ) → k < region.width → k < narrow.width
    within_narrow k lt = subst (λ w. k < w) (sym width) lt

    from_narrow : (x : ℕ) → HoldsNumber narrow x → HoldsNumber region x × ((k : ℕ) → bit places k ≡ true → bit bits k ≡ bit x k)
    from_narrow x held = (
      held_from_agrees region x
          (λ k lt cares. sym (value_in_region k cares)
          ∙ agrees_from_held narrow x held k (within_narrow k lt) (care_bit k ∙ or_first (bit region.care k) (bit places k) cares)),
      λ k one. sym (value_in_places k one)
          ∙ agrees_from_held narrow x held k (within_narrow k (dashes k one).0) (care_bit k ∙ or_second (bit region.care k) (bit places k) one),
    )

    to_narrow : (x : ℕ) → HoldsNumber region x → ((k : ℕ) → bit places k ≡ true → bit bits k ≡ bit x k) → HoldsNumber narrow x
    to_narrow x held same = held_from_agrees narrow x each where
      each : (k : ℕ) → k < narrow.width → bit narrow.care k ≡ true → bit narrow.value k ≡ bit x k
      each k lt cares =
          elim (cases_Bool (bit region.care k)) [
            | inl first ↦ value_in_region k first ∙ agrees_from_held region x held k (subst (λ w. k < w) width lt) first
            | inr dash ↦
                let second : bit places k ≡ true = sym (ap (λ b. b || bit places k) dash) ∙ sym (care_bit k) ∙ cares in
                value_in_places k second ∙ same k second
          ]

    pub narrow_is : IsNarrowed region narrow places bits
    narrow_is = record {
      width = width;
      care = care;
      grows = λ some. subst (λ n. region.care < n) (sym care) (care_grows some);
      from = from_narrow;
      to = to_narrow;
    }

-- a part with more bits has fewer dashes
pub dashes_fall : (region narrow : Cube) → region.care < narrow.care → 2 ^ 32 - narrow.care < 2 ^ 32 - region.care
dashes_fall region narrow more =
    let two : 0 < 2 = omega arith in
    let bound : 2 ^ narrow.width ≤ 2 ^ 32 = pow-le-pow_right two narrow.width_bound in
    omega (arith, more, bound, narrow.care_in_width)
