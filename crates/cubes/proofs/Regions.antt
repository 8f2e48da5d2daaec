-- A region and the cubes that touch it.
use Rattle.std.proofs.Common.{◌≡◌, ℕ, ◌+◌, ◌%◌, ◌^◌, ◌<◌, min, Bool, true, false, not, ◌&&◌, cond, inl, inr, List, filter, All, Any, Option, Some, None, Result, Ok, Err, IfOk, IfSome, IfNone, sym, ap, ◌∙◌, subst, refl, arith}
use Rattle.std.proofs.lemmas.Bool.{cases_Bool, eq-eqb, eqb-true, false≢true, true≢false}
use Rattle.std.proofs.lemmas.List.Elements.{All-filter}
use Rattle.std.proofs.lemmas.Nat.Bits.{bit_at-lt, bit_at-zero, same_from_bits}
use Rattle.std.specs.Bool.{beq}
use Rattle.std.specs.Int.{bit_at}
use Rattle.std.specs.declared.alloc.AllocError.{AllocError}
use Rattle.std.specs.Int.RustNames.{bit_xor}
use Rattle.cubes.specs.declared.cube.Cube.{Cube}
use Rattle.cubes.specs.Symbol.{bit}
use Rattle.cubes.specs.Cube.{HoldsNumber, clash_of}
use Rattle.cubes.specs.Gap.{IsHeld}
use Rattle.cubes.specs.Inner.Region.{AreWanted, HoldsRegion, IsGapIn, looked_at, touches}
use Rattle.cubes.specs.Laws.Bits.{bit-and, bit-xor, bit-zero, one_from_bit, same_bits, same_digits}
use Rattle.cubes.specs.Laws.Ends.{least_held, value_le_care}
use Rattle.cubes.specs.Laws.Held.{agrees_from_held, held_from_agrees}
use Rattle.cubes.proofs.Lists.{Any-from_filter, Any-to_filter, Any-weaker, Any-with_all}
use Rattle.cubes.specs.Laws.Meeting.{clash_digit, clash_of-agreed}

-- ---- the places at which a cube looks
looks_when : (c r : Bool) → c ≡ true → r ≡ false → (c && not (beq c r)) ≡ true
looks_when true false cares dash = refl
looks_when true true cares dash = absurd (true≢false dash)
looks_when false r cares dash = absurd (false≢true cares)

cares_when : (c r : Bool) → (c && not (beq c r)) ≡ true → (c ≡ true) × (r ≡ false)
cares_when true false looks = (refl, refl)
cares_when true true looks = absurd (false≢true looks)
cares_when false r looks = absurd (false≢true looks)

module _ (region c : Cube) (k : ℕ) where
  look_bit : bit (looked_at region c) k ≡ (bit c.care k && not (beq (bit c.care k) (bit region.care k)))
  look_bit = bit-and c.care (bit_xor c.care region.care) k ∙ ap (λ b. bit c.care k && b) (bit-xor c.care region.care k)

  -- it looks where it has a bit and the region a dash
  pub look_from : bit c.care k ≡ true → bit region.care k ≡ false → bit (looked_at region c) k ≡ true
  look_from cares dash = look_bit ∙ looks_when (bit c.care k) (bit region.care k) cares dash

  pub from_look : bit (looked_at region c) k ≡ true → (bit c.care k ≡ true) × (bit region.care k ≡ false)
  from_look looks = cares_when (bit c.care k) (bit region.care k) (sym look_bit ∙ looks)

-- ---- a cube that touches the region
-- where nothing clashes, two bits are one
same_digit : (v w a b : ℕ) → v < 2 → w < 2 → min (min ((v + w) % 2) a) b ≡ 0 → a ≡ 1 → b ≡ 1 → v ≡ w
same_digit v w a b lv lw none first second = grind arith

module _ (region c : Cube) (widths : c.width ≡ region.width) where
  pub touches_from_held : (x : ℕ) → HoldsNumber region x → HoldsNumber c x → touches region c ≡ true
  touches_from_held x inside held =
      eq-eqb (clash_of c region) 0 (clash_of-agreed c region x widths (agrees_from_held c x held) (agrees_from_held region x inside))

  same_value : (k : ℕ) → touches region c ≡ true → bit c.care k ≡ true → bit region.care k ≡ true → bit c.value k ≡ bit region.value k
  same_value k touch first second =
      same_bits c.value region.value k k
      (same_digit (bit_at c.value k) (bit_at region.value k) (bit_at c.care k) (bit_at region.care k) (bit_at-lt c.value k) (bit_at-lt region.value k)
      (sym (clash_digit c region k) ∙ ap (λ n. bit_at n k) (eqb-true (clash_of c region) 0 touch) ∙ bit_at-zero k)
      (one_from_bit c.care k first) (one_from_bit region.care k second))

  -- one that looks at no dash of the region holds all of its symbols
  pub held_by_whole : touches region c ≡ true → looked_at region c ≡ 0 → (x : ℕ) → HoldsNumber region x → HoldsNumber c x
  held_by_whole touch none x inside = held_from_agrees c x each where
    each : (k : ℕ) → k < c.width → bit c.care k ≡ true → bit c.value k ≡ bit x k
    each k lt cares =
        elim (cases_Bool (bit region.care k)) [
          | inl looks ↦ same_value k touch cares looks ∙ agrees_from_held region x inside k (subst (λ w. k < w) widths lt) looks
          | inr dash ↦ absurd (false≢true (sym (bit-zero k) ∙ ap (λ n. bit n k) (sym none) ∙ look_from region c k cares dash))
        ]

-- ---- the cubes of a list that touch the region
module _ (list cubes : List Cube) (region : Cube) (widths : All (λ c. c.width ≡ region.width) list) (are : cubes ≡ filter (touches region) list) where
  pub widths_near : (narrow : Cube) → narrow.width ≡ region.width → All (λ c. c.width ≡ narrow.width) cubes
  widths_near narrow same =
      subst (λ (w : ℕ). All (λ c. c.width ≡ w) cubes) (sym same)
      (subst (All (λ (c : Cube). c.width ≡ region.width)) (sym are) (All-filter (touches region) (λ c. c.width ≡ region.width) list widths))

  pub held_far : (x : ℕ) → IsHeld cubes x → IsHeld list x
  held_far x held =
      Any-weaker (λ (c : Cube). HoldsNumber c x × (touches region c ≡ true)) (λ c. HoldsNumber c x) (λ c h. h.0) list
      (Any-from_filter (λ c. HoldsNumber c x) (touches region) list (subst (λ (near : List Cube). IsHeld near x) are held))

  pub held_near : (x : ℕ) → HoldsNumber region x → IsHeld list x → IsHeld cubes x
  held_near x inside held =
      subst (λ (near : List Cube). IsHeld near x) (sym are)
      (Any-to_filter (λ c. HoldsNumber c x) (touches region) list
      (Any-weaker (λ (c : Cube). HoldsNumber c x × (c.width ≡ region.width)) (λ c. HoldsNumber c x × (touches region c ≡ true))
      (λ c h. (h.0, touches_from_held region c h.1 x inside h.0)) list
      (Any-with_all (λ c. HoldsNumber c x) (λ c. c.width ≡ region.width) list widths held)))

  -- one that looks at no dash
  pub whole_near : Any (λ c. looked_at region c ≡ 0) cubes → HoldsRegion list region
  whole_near whole x inside =
      Any-weaker (λ (c : Cube). ((looked_at region c ≡ 0) × (touches region c ≡ true)) × (c.width ≡ region.width)) (λ c. HoldsNumber c x)
      (λ c h. held_by_whole region c h.1 h.0.1 h.0.0 x inside) list
      (Any-with_all (λ c. (looked_at region c ≡ 0) × (touches region c ≡ true)) (λ c. c.width ≡ region.width) list widths
      (Any-from_filter (λ c. looked_at region c ≡ 0) (touches region) list (subst (Any (λ (c : Cube). looked_at region c ≡ 0)) are whole)))

  -- where none looks at a dash and none holds the whole region, no cube is left
  pub none_near : AreWanted cubes region 0 0 → (Any (λ c. looked_at region c ≡ 0) cubes → ⊥) → IsGapIn list region region.value
  none_near wanted no_whole = record {
    within = omega (arith, value_le_care region, region.care_in_width);
    inside = least_held region;
    without = λ held. no_whole
        (Any-weaker (λ (c : Cube). HoldsNumber c region.value × ((k : ℕ) → bit (looked_at region c) k ≡ true → bit (cond (bit c.value k) 0 0) k ≡ true))
        (λ c. looked_at region c ≡ 0)
        (λ c h. same_from_bits (looked_at region c) 0 (λ k. same_digits (looked_at region c) 0 k k (no_look c h.1 k))) cubes
        (Any-with_all (λ c. HoldsNumber c region.value) (λ c. (k : ℕ) → bit (looked_at region c) k ≡ true → bit (cond (bit c.value k) 0 0) k ≡ true) cubes wanted.each
        (held_near region.value (least_held region) held)));
  } where
    nothing : (b : Bool) (k : ℕ) → bit (cond b 0 0) k ≡ false
    nothing true k = bit-zero k
    nothing false k = bit-zero k

    no_look : (c : Cube) → ((k : ℕ) → bit (looked_at region c) k ≡ true → bit (cond (bit c.value k) 0 0) k ≡ true) → (k : ℕ) → bit (looked_at region c) k ≡ bit 0 k
    no_look c wants k =
        elim (cases_Bool (bit (looked_at region c) k)) [
          | inl looks ↦ absurd (false≢true (sym (nothing (bit c.value k) k) ∙ wants k looks))
          | inr none ↦ none ∙ sym (bit-zero k)
        ]

  -- a gap of a part of the region
  pub gap_far : (narrow : Cube) → narrow.width ≡ region.width → ((x : ℕ) → HoldsNumber narrow x → HoldsNumber region x) → (gap : ℕ) → IsGapIn cubes narrow gap → IsGapIn list region gap
  gap_far narrow same from gap h = record {
    within = subst (λ (w : ℕ). gap < 2 ^ w) same h.within;
    inside = from gap h.inside;
    without = λ held. h.without (held_near gap (from gap h.inside) held);
  }

-- ---- an answer of another call, handed on
module _ (answer : Result (Option ℕ) AllocError) where
  pub some_on : (P Q : ℕ → Type 0) → ((gap : ℕ) → P gap → Q gap) → IfOk answer (λ gap. IfSome gap P) → IfOk answer (λ gap. IfSome gap Q)
  some_on P Q f h = on answer h where
    on : (a : Result (Option ℕ) AllocError) → IfOk a (λ gap. IfSome gap P) → IfOk a (λ gap. IfSome gap Q)
    on (Ok (Some gap)) p = f gap p
    on (Ok None) p = tt
    on (Err e) p = tt

  pub none_on : (P Q : Type 0) → (P → Q) → IfOk answer (λ gap. IfNone gap P) → IfOk answer (λ gap. IfNone gap Q)
  none_on P Q f h = on answer h where
    on : (a : Result (Option ℕ) AllocError) → IfOk a (λ gap. IfNone gap P) → IfOk a (λ gap. IfNone gap Q)
    on (Ok (Some gap)) p = tt
    on (Ok None) p = f p
    on (Err e) p = tt

pub ok_on : (answer : Result ℕ AllocError) (P Q : ℕ → Type 0) → ((gap : ℕ) → P gap → Q gap) → IfOk answer P → IfOk answer Q
ok_on (Ok gap) P Q f h = f gap h
ok_on (Err e) P Q f h = tt
