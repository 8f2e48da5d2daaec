-- The cube of what two cubes hold both, and the half of a cube.
use Rattle.std.proofs.Common.{◌≡◌, ◌≢◌, ℕ, ◌^◌, ◌<◌, min, max, Bool, true, false, cond, inl, inr, ap, sym, ◌∙◌, subst, refl, arith, bit_or}
use Rattle.std.proofs.lemmas.Bool.{cases_Bool, cases_eq, true≢false}
use Rattle.std.proofs.lemmas.Nat.Bits.{bit_at_or, bit_at-lt, bit_at-pow_same, bit_at-pow_other}
use Rattle.std.specs.Int.{bit_at}
use Rattle.cubes.specs.declared.cube.Cube.{Cube}
use Rattle.cubes.specs.Symbol.{bit}
use Rattle.cubes.specs.Cube.{HoldsNumber, IsBoth, IsHalf, Meets, clash_of}
use Rattle.cubes.specs.Inner.Region.{IsHalfOf}
use Rattle.cubes.specs.Laws.Bits.{one_from_bit, zero_from_bit, bit_from_one, bit_from_zero, same_bits}
use Rattle.cubes.specs.Laws.Held.{agrees_from_held, held_from_agrees}
use Rattle.cubes.specs.Laws.Meeting.{clash_from_meets, first_holds_both, kept_digit, second_holds_both}

-- ---- the bits of a half
module _ (c half : Cube) (place : ℕ) (b : Bool) (is : IsHalf c half place b) where
  care_here : bit half.care place ≡ true
  care_here =
      bit_from_one half.care place
      (ap (λ n. bit_at n place) is.care ∙ bit_at_or c.care (2 ^ place) place ∙ ap (λ d. max (bit_at c.care place) d) (bit_at-pow_same place) ∙ most (bit_at c.care place) (bit_at-lt c.care place)) where
        most : (d : ℕ) → d < 2 → max d 1 ≡ 1
        most d lt = omega arith

  care_other : (k : ℕ) → k ≢ place → bit half.care k ≡ bit c.care k
  care_other k other =
      same_bits half.care c.care k k
      (ap (λ n. bit_at n k) is.care ∙ bit_at_or c.care (2 ^ place) k ∙ ap (λ d. max (bit_at c.care k) d) (bit_at-pow_other place k other) ∙ rest (bit_at c.care k)) where
        rest : (d : ℕ) → max d 0 ≡ d
        rest d = omega arith

  -- no bit of the value stands at the dash
  value_at_dash : bit_at c.value place ≡ 0
  value_at_dash =
      let none : bit_at c.care place ≡ 0 = zero_from_bit c.care place is.dash in
      let kept : bit_at c.value place ≡ min (bit_at c.care place) (bit_at c.value place) = kept_digit c place in
      omega arith

  value_here : bit half.value place ≡ b
  value_here = ap (λ n. bit n place) is.value ∙ cases b where
    cases : (v : Bool) → bit (cond v (bit_or c.value (2 ^ place)) c.value) place ≡ v
    cases true =
        bit_from_one (bit_or c.value (2 ^ place)) place
        (bit_at_or c.value (2 ^ place) place ∙ ap (λ d. max (bit_at c.value place) d) (bit_at-pow_same place) ∙ ap (λ d. max d 1) value_at_dash)
    cases false = bit_from_zero c.value place value_at_dash

  value_other : (k : ℕ) → k ≢ place → bit half.value k ≡ bit c.value k
  value_other k other = ap (λ n. bit n k) is.value ∙ cases b where
    rest : (d : ℕ) → max d 0 ≡ d
    rest d = omega arith

    cases : (v : Bool) → bit (cond v (bit_or c.value (2 ^ place)) c.value) k ≡ bit c.value k
    cases true =
        same_bits (bit_or c.value (2 ^ place)) c.value k k
        (bit_at_or c.value (2 ^ place) k ∙ ap (λ d. max (bit_at c.value k) d) (bit_at-pow_other place k other) ∙ rest (bit_at c.value k))
    cases false = refl

  pub whole_from_half : (x : ℕ) → HoldsNumber half x → HoldsNumber c x × (bit x place ≡ b)
  whole_from_half x h =
      (held_from_agrees c x each, sym (agrees_from_held half x h place (subst (λ w. place < w) (sym is.width) is.place_within) care_here) ∙ value_here) where
        each : (k : ℕ) → k < c.width → bit c.care k ≡ true → bit c.value k ≡ bit x k
        each k lt cares =
            let other : k ≢ place = λ same. true≢false (sym cares ∙ ap (λ n. bit c.care n) same ∙ is.dash) in
            sym (value_other k other) ∙ agrees_from_held half x h k (subst (λ w. k < w) (sym is.width) lt) (care_other k other ∙ cares)

  pub half_from_whole : (x : ℕ) → HoldsNumber c x × (bit x place ≡ b) → HoldsNumber half x
  half_from_whole x h = held_from_agrees half x each where
    each : (k : ℕ) → k < half.width → bit half.care k ≡ true → bit half.value k ≡ bit x k
    each k lt cares =
        elim (cases_eq k place) [
          | inl same ↦ ap (λ n. bit half.value n) same ∙ value_here ∙ sym h.1 ∙ ap (λ n. bit x n) (sym same)
          | inr other ↦ value_other k other ∙ agrees_from_held c x h.0 k (subst (λ w. k < w) is.width lt) (sym (care_other k other) ∙ cares)
        ]

  -- it is a half of the region with the cube's symbols
  pub half_of_region : c.care < half.care → IsHalfOf c half place b
  half_of_region grows = record {
    width = is.width;
    care = is.care;
    grows = grows;
    from = whole_from_half;
    to = λ x held at. half_from_whole x (held, at);
  }

-- ---- what two cubes that meet hold both
module _ (c d both : Cube) (is : IsBoth c d both) (meets : Meets c d) where
  widths : c.width ≡ d.width
  widths = sym is.first_width ∙ is.second_width

  clash_free : clash_of c d ≡ 0
  clash_free = clash_from_meets c d widths meets

  care_digit : (k : ℕ) → bit_at both.care k ≡ max (bit_at c.care k) (bit_at d.care k)
  care_digit k = ap (λ n. bit_at n k) is.care ∙ bit_at_or c.care d.care k

  value_of_first : (k : ℕ) → k < c.width → bit c.care k ≡ true → bit both.value k ≡ bit c.value k
  value_of_first k lt cares = ap (λ n. bit n k) is.value ∙ sym (first_holds_both c d clash_free k lt cares)

  value_of_second : (k : ℕ) → k < d.width → bit d.care k ≡ true → bit both.value k ≡ bit d.value k
  value_of_second k lt cares = ap (λ n. bit n k) is.value ∙ sym (second_holds_both c d clash_free k lt cares)

  pub first_from_both : (x : ℕ) → HoldsNumber both x → HoldsNumber c x
  first_from_both x h = held_from_agrees c x each where
    each : (k : ℕ) → k < c.width → bit c.care k ≡ true → bit c.value k ≡ bit x k
    each k lt cares =
        let one : bit_at c.care k ≡ 1 = one_from_bit c.care k cares in
        let other : bit_at d.care k < 2 = bit_at-lt d.care k in
        let digit : bit_at both.care k ≡ max (bit_at c.care k) (bit_at d.care k) = care_digit k in
        sym (value_of_first k lt cares) ∙ agrees_from_held both x h k (subst (λ w. k < w) (sym is.first_width) lt) (bit_from_one both.care k (omega arith))

  pub second_from_both : (x : ℕ) → HoldsNumber both x → HoldsNumber d x
  second_from_both x h = held_from_agrees d x each where
    each : (k : ℕ) → k < d.width → bit d.care k ≡ true → bit d.value k ≡ bit x k
    each k lt cares =
        let one : bit_at d.care k ≡ 1 = one_from_bit d.care k cares in
        let other : bit_at c.care k < 2 = bit_at-lt c.care k in
        let digit : bit_at both.care k ≡ max (bit_at c.care k) (bit_at d.care k) = care_digit k in
        sym (value_of_second k lt cares) ∙ agrees_from_held both x h k (subst (λ w. k < w) (sym is.second_width) lt) (bit_from_one both.care k (omega arith))

  pub both_from_each : (x : ℕ) → HoldsNumber c x × HoldsNumber d x → HoldsNumber both x
  both_from_each x h = held_from_agrees both x each where
    each : (k : ℕ) → k < both.width → bit both.care k ≡ true → bit both.value k ≡ bit x k
    each k lt cares =
        let first_lt : k < c.width = subst (λ w. k < w) is.first_width lt in
        let second_lt : k < d.width = subst (λ w. k < w) is.second_width lt in
        elim (cases_Bool (bit c.care k)) [
          | inl first ↦ value_of_first k first_lt first ∙ agrees_from_held c x h.0 k first_lt first
          | inr dash ↦
              let none : bit_at c.care k ≡ 0 = zero_from_bit c.care k dash in
              let one : bit_at both.care k ≡ 1 = one_from_bit both.care k cares in
              let digit : bit_at both.care k ≡ max (bit_at c.care k) (bit_at d.care k) = care_digit k in
              let second : bit d.care k ≡ true = bit_from_one d.care k (omega arith) in
              value_of_second k second_lt second ∙ agrees_from_held d x h.1 k second_lt second
        ]
