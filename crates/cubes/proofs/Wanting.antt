-- What cubes want at the dashes of a region.
use Rattle.std.proofs.Common.{◌≡◌, ℕ, ◌^◌, ◌<◌, Bool, true, false, not, ◌||◌, ◌&&◌, cond, ◌⊎◌, inl, inr, List, All, filter, ap, sym, ◌∙◌, subst, refl, bit_and, bit_or}
use Rattle.std.proofs.lemmas.Bool.{cases_Bool, cases_lt, false≢true, true≢false}
use Rattle.std.proofs.lemmas.Nat.Bits.{bit_at_above, same_from_bits}
use Rattle.std.specs.Bool.{beq}
use Rattle.std.specs.Int.RustNames.{bit_xor}
use Rattle.cubes.specs.declared.cube.Cube.{Cube}
use Rattle.cubes.specs.Symbol.{bit}
use Rattle.cubes.specs.Cube.{HoldsNumber}
use Rattle.cubes.specs.Inner.Region.{AreWanted, HoldsRegion, IsNarrowed, IsHalfOf, IsOpen, looked_at, touches}
use Rattle.cubes.specs.Laws.Bits.{bit-and, bit-or, bit-xor, bit-zero, bit_from_zero, or_first, or_second, same_digits}
use Rattle.cubes.proofs.Choosing.{chosen, chosen-bit}
use Rattle.cubes.specs.Laws.Held.{agrees_from_held, held_from_agrees}
use Rattle.cubes.proofs.Lists.{Any-weaker, Any-with_all}
use Rattle.cubes.proofs.Regions.{from_look, look_from, held_far}

-- ---- one cube more
-- what a cube wants is among the masks
abbrev pub Wants : Cube → ℕ → ℕ → Cube → Type 0
Wants region ones zeros c = (k : ℕ) → bit (looked_at region c) k ≡ true → bit (cond (bit c.value k) ones zeros) k ≡ true

-- the places of a mask are dashes of the region
abbrev pub AreOpen : Cube → ℕ → Type 0
AreOpen region mask = (k : ℕ) → bit mask k ≡ true → IsOpen region k

and_first : (a b : Bool) → (a && b) ≡ true → a ≡ true
and_first true b h = refl
and_first false b h = h

or_cases : (a b : Bool) → (a || b) ≡ true → (a ≡ true) ⊎ (b ≡ true)
or_cases true b h = inl refl
or_cases false b h = inr h

wants_one : (l v : Bool) → l ≡ true → v ≡ true → (l && v) ≡ true
wants_one true v h is = is
wants_one false v h is = h

wants_zero : (l v : Bool) → l ≡ true → v ≡ false → (l && not (beq l v)) ≡ true
wants_zero true false h is = refl
wants_zero true true h is = absurd (true≢false is)
wants_zero false v h is = h

-- the places at which a cube looks are dashes
looks_open : (region c : Cube) → c.width ≡ region.width → AreOpen region (looked_at region c)
looks_open region c widths k looks =
    let both = from_look region c k looks in (
      elim (cases_lt k region.width) [
        | inl lt ↦ lt
        | inr ge ↦
            let beyond : c.care < 2 ^ region.width = subst (λ w. c.care < 2 ^ w) widths c.care_in_width in
            absurd (false≢true (sym (bit_from_zero c.care k (bit_at_above c.care region.width k beyond ge)) ∙ both.0))
      ],
      both.1,
    )

module _ (region c : Cube) (widths : c.width ≡ region.width) (other : ℕ) where
  pub open_more : (mask : ℕ) → AreOpen region mask → AreOpen region (bit_or mask (bit_and (looked_at region c) other))
  open_more mask dashes k one =
      elim (or_cases (bit mask k) (bit (bit_and (looked_at region c) other) k) (sym (bit-or mask (bit_and (looked_at region c) other) k) ∙ one)) [
        | inl before ↦ dashes k before
        | inr now ↦ looks_open region c widths k (and_first (bit (looked_at region c) k) (bit other k) (sym (bit-and (looked_at region c) other k) ∙ now))
      ]

-- a mask that grows keeps its bits
mask_more : (mask more k : ℕ) → bit mask k ≡ true → bit (bit_or mask more) k ≡ true
mask_more mask more k one = bit-or mask more k ∙ or_first (bit mask k) (bit more k) one

mask_new : (mask more k : ℕ) → bit more k ≡ true → bit (bit_or mask more) k ≡ true
mask_new mask more k one = bit-or mask more k ∙ or_second (bit mask k) (bit more k) one

module _ (region : Cube) (ones zeros more_ones more_zeros : ℕ) where
  pub wants_more : (c : Cube) → Wants region ones zeros c → Wants region (bit_or ones more_ones) (bit_or zeros more_zeros) c
  wants_more c wants k looks = cases (bit c.value k) (wants k looks) where
    cases : (v : Bool) → bit (cond v ones zeros) k ≡ true → bit (cond v (bit_or ones more_ones) (bit_or zeros more_zeros)) k ≡ true
    cases true one = mask_more ones more_ones k one
    cases false one = mask_more zeros more_zeros k one

pub wants_now : (region c : Cube) (ones zeros : ℕ) → Wants region (bit_or ones (bit_and (looked_at region c) c.value)) (bit_or zeros (bit_and (looked_at region c) (bit_xor (looked_at region c) c.value))) c
wants_now region c ones zeros k looks = cases (bit c.value k) refl where
  cases : (v : Bool) → bit c.value k ≡ v
      → bit (cond v (bit_or ones (bit_and (looked_at region c) c.value)) (bit_or zeros (bit_and (looked_at region c) (bit_xor (looked_at region c) c.value)))) k ≡ true
  cases true is =
      mask_new ones (bit_and (looked_at region c) c.value) k (bit-and (looked_at region c) c.value k ∙ wants_one (bit (looked_at region c) k) (bit c.value k) looks is)
  cases false is =
      mask_new zeros (bit_and (looked_at region c) (bit_xor (looked_at region c) c.value)) k
      (bit-and (looked_at region c) (bit_xor (looked_at region c) c.value) k
      ∙ ap (λ b. bit (looked_at region c) k && b) (bit-xor (looked_at region c) c.value k)
      ∙ wants_zero (bit (looked_at region c) k) (bit c.value k) looks is)

-- ---- masks with no bit
pub same_masks : (ones zeros : ℕ) → bit_xor ones zeros ≡ 0 → zeros ≡ ones
same_masks ones zeros none =
    same_from_bits zeros ones (λ k. same_digits zeros ones k k (same (bit ones k) (bit zeros k) (sym (bit-xor ones zeros k) ∙ ap (λ n. bit n k) none ∙ bit-zero k))) where
      same : (a b : Bool) → not (beq a b) ≡ false → b ≡ a
      same true true h = refl
      same false false h = refl
      same true false h = absurd (true≢false h)
      same false true h = absurd (true≢false h)

-- ---- places at which all want one bit
either : (a b : Bool) → not (beq a b) ≡ true → (a ≡ true) ⊎ (b ≡ true)
either true b h = inl refl
either false true h = inr refl
either false false h = absurd (false≢true h)

not_wanted : (v o z u x : Bool) → cond v o z ≡ true → u ≡ not (beq o z) → u ≡ true → x ≡ (z && u) → v ≡ x → ⊥
not_wanted true true false true x wants is one against same = true≢false (same ∙ against)
not_wanted true true true u x wants is one against same = true≢false (sym one ∙ is)
not_wanted true false z u x wants is one against same = false≢true wants
not_wanted false o false u x wants is one against same = false≢true wants
not_wanted false o true true x wants is one against same = false≢true (same ∙ against)
not_wanted false o true false x wants is one against same = false≢true one
not_wanted true true false false x wants is one against same = false≢true one

module _ (region : Cube) (ones zeros : ℕ) where
  pub one_sided_open : AreOpen region ones → AreOpen region zeros → AreOpen region (bit_xor ones zeros)
  one_sided_open ones_open zeros_open k one =
      elim (either (bit ones k) (bit zeros k) (sym (bit-xor ones zeros k) ∙ one)) [
        | inl first ↦ ones_open k first
        | inr second ↦ zeros_open k second
      ]

  and_last : (a b : Bool) → (a && b) ≡ true → b ≡ true
  and_last true b h = h
  and_last false b h = absurd (false≢true h)

  pub against_inside : (k : ℕ) → bit (bit_and zeros (bit_xor ones zeros)) k ≡ true → bit (bit_xor ones zeros) k ≡ true
  against_inside k one = and_last (bit zeros k) (bit (bit_xor ones zeros) k) (sym (bit-and zeros (bit_xor ones zeros) k) ∙ one)

  -- the symbol with the other bit at those places, and else the bits of a symbol
  moved_bit : ℕ → ℕ → Bool
  moved_bit x k = cond (bit (bit_xor ones zeros) k) (bit (bit_and zeros (bit_xor ones zeros)) k) (bit x k)

  moved : ℕ → ℕ
  moved x = chosen (moved_bit x) region.width

  moved_there : (x k : ℕ) → k < region.width → bit (bit_xor ones zeros) k ≡ true → bit (moved x) k ≡ bit (bit_and zeros (bit_xor ones zeros)) k
  unfolding moved moved_bit
  moved_there x k lt one = chosen-bit (moved_bit x) region.width k lt ∙ ap (λ b. cond b (bit (bit_and zeros (bit_xor ones zeros)) k) (bit x k)) one

  moved_else : (x k : ℕ) → k < region.width → bit (bit_xor ones zeros) k ≡ false → bit (moved x) k ≡ bit x k
  unfolding moved moved_bit
  moved_else x k lt none = chosen-bit (moved_bit x) region.width k lt ∙ ap (λ b. cond b (bit (bit_and zeros (bit_xor ones zeros)) k) (bit x k)) none

  by_bit : (v : Bool) (k : ℕ) → bit (cond v ones zeros) k ≡ true → cond v (bit ones k) (bit zeros k) ≡ true
  by_bit true k h = h
  by_bit false k h = h

  -- a cube that holds it looks at none of the places
  held_from_moved : (x : ℕ) → AreOpen region ones → AreOpen region zeros → (c : Cube) → Wants region ones zeros c → c.width ≡ region.width → HoldsNumber c (moved x) → HoldsNumber c x
  held_from_moved x ones_open zeros_open c wants widths held = held_from_agrees c x each where
    each : (k : ℕ) → k < c.width → bit c.care k ≡ true → bit c.value k ≡ bit x k
    each k lt cares =
        let within : k < region.width = subst (λ w. k < w) widths lt in
        let same : bit c.value k ≡ bit (moved x) k = agrees_from_held c (moved x) held k lt cares in
        elim (cases_Bool (bit (bit_xor ones zeros) k)) [
          | inl one ↦
              let dash : bit region.care k ≡ false = (one_sided_open ones_open zeros_open k one).1 in
              absurd
              (not_wanted (bit c.value k) (bit ones k) (bit zeros k) (bit (bit_xor ones zeros) k) (bit (moved x) k)
              (by_bit (bit c.value k) k (wants k (look_from region c k cares dash)))
              (bit-xor ones zeros k) one
              (moved_there x k within one ∙ bit-and zeros (bit_xor ones zeros) k) same)
          | inr none ↦ same ∙ moved_else x k within none
        ]

  moved_inside : (narrow : Cube) → IsNarrowed region narrow (bit_xor ones zeros) (bit_and zeros (bit_xor ones zeros)) → AreOpen region ones → AreOpen region zeros
      → (x : ℕ) → HoldsNumber region x → HoldsNumber narrow (moved x)
  moved_inside narrow is ones_open zeros_open x inside =
      is.to (moved x) (held_from_agrees region (moved x) each) (λ k one. sym (moved_there x k (sides k one).0 one)) where
        sides : AreOpen region (bit_xor ones zeros)
        sides = one_sided_open ones_open zeros_open

        each : (k : ℕ) → k < region.width → bit region.care k ≡ true → bit region.value k ≡ bit (moved x) k
        each k lt cares =
            elim (cases_Bool (bit (bit_xor ones zeros) k)) [
              | inl one ↦ absurd (true≢false (sym cares ∙ (sides k one).1))
              | inr none ↦ agrees_from_held region x inside k lt cares ∙ sym (moved_else x k lt none)
            ]

-- so where the part against them has no gap, the region has none
module _ (list cubes : List Cube) (region : Cube) (widths : All (λ c. c.width ≡ region.width) list) (are : cubes ≡ filter (touches region) list) where
  pub against_held : (ones zeros : ℕ) (narrow : Cube) → All (λ c. c.width ≡ region.width) cubes → AreWanted cubes region ones zeros
      → IsNarrowed region narrow (bit_xor ones zeros) (bit_and zeros (bit_xor ones zeros)) → HoldsRegion cubes narrow → HoldsRegion list region
  against_held ones zeros narrow near wanted is none x inside =
      held_far list cubes region widths are x
      (Any-weaker (λ (c : Cube). (HoldsNumber c (moved region ones zeros x) × Wants region ones zeros c) × (c.width ≡ region.width)) (λ c. HoldsNumber c x)
      (λ c h. held_from_moved region ones zeros x wanted.ones_open wanted.zeros_open c h.0.1 h.1 h.0.0) cubes
      (Any-with_all (λ c. HoldsNumber c (moved region ones zeros x) × Wants region ones zeros c) (λ c. c.width ≡ region.width) cubes near
      (Any-with_all (λ c. HoldsNumber c (moved region ones zeros x)) (Wants region ones zeros) cubes wanted.each
      (none (moved region ones zeros x) (moved_inside region ones zeros narrow is wanted.ones_open wanted.zeros_open x inside)))))

  -- and where neither half has one
  pub halves_held : (low high : Cube) (place : ℕ) → IsHalfOf region low place false → IsHalfOf region high place true → HoldsRegion cubes low → HoldsRegion cubes high
      → HoldsRegion list region
  halves_held low high place is_low is_high none_low none_high x inside =
      held_far list cubes region widths are x
      (elim (cases_Bool (bit x place)) [
        | inl one ↦ none_high x (is_high.to x inside one)
        | inr zero_here ↦ none_low x (is_low.to x inside zero_here)
      ])
