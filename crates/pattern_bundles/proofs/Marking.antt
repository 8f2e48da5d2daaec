-- Words that mark the first items of a list, item by item, and agreement place by place.
use Rattle.std.proofs.Common.{◌≡◌, ◌≢◌, ◌↔◌, ℕ, ◌+◌, ◌*◌, ◌%◌, ◌^◌, ◌<◌, ◌≤◌, ◌∙◌, Bool, ◌==◌, zero, suc, if◌then◌else◌, true, false, bit_and, bit_or, List, Some, length, slice_get, ap, sym, subst, refl, inl, inr, arith}
use Rattle.std.specs.Int.{bit_at, w64}
use Rattle.std.proofs.lemmas.Bool.{cases_eq, cases_lt}
use Rattle.std.proofs.lemmas.Option.{slice_get_within}
use Rattle.std.proofs.lemmas.Nat.Bits.{bit_at-lt, bit_at-zero, bit_at_and, bit_at_set_other, bit_at_set_same}
use Rattle.pattern_bundles.specs.declared.pattern.Pattern.{Pattern}
use Rattle.pattern_bundles.specs.declared.bundle.Plane.{Plane}
use Rattle.pattern_bundles.specs.Pattern.{Agree, IsFirstMark, IsWithoutMark, Marks}
use Rattle.pattern_bundles.specs.Inner.Plane.{AgreeExcept, Allows, AreFirst}
use Rattle.pattern_bundles.proofs.Words.{none_of_zero, zero_is_not_one}

-- of the first items, the word marks those for which this holds, and it marks no other item
pub record MarksFirst (patterns : List Pattern) (P : Pattern → Type 0) (count word : ℕ) : Type 0 where
  pub each : (k : ℕ) (p : Pattern) → slice_get patterns k ≡ Some p → k < count → (bit_at word k ≡ 1) ↔ P p
  pub no_more : (k : ℕ) → bit_at word k ≡ 1 → k < count

module _ (patterns : List Pattern) (P : Pattern → Type 0) where
  pub marks_none : MarksFirst patterns P 0 0
  marks_none = record {
    each = λ k p at below. absurd (omega arith);
    no_more = λ k one. absurd (none_of_zero k one);
  }

  module _ (count word : ℕ) (p : Pattern) (at : slice_get patterns count ≡ Some p) (first : MarksFirst patterns P count word) where
    the_item : (k : ℕ) (q : Pattern) → k ≡ count → slice_get patterns k ≡ Some q → p ≡ q
    the_item k q same is = let found : Some p ≡ Some q = sym at ∙ ap (slice_get patterns) (sym same) ∙ is in cc

    -- one item more, which is marked
    pub marks_more : count < 64 → P p → MarksFirst patterns P (count + 1) (bit_or word (1 * 2 ^ count % 2 ^ 64))
    marks_more within holds = record {
      each = λ k q is below.
          elim (cases_eq k count) [
            | inl same ↦ (
              λ one. subst P (the_item k q same is) holds,
              λ also. ap (bit_at (bit_or word (1 * 2 ^ count % 2 ^ 64))) same ∙ bit_at_set_same w64 word count within,
            )
            | inr other ↦
                let kept = bit_at_set_other w64 word count within k other in
                let both = first.each k q is (omega (arith, below, other)) in
                (λ one. both.0 (sym kept ∙ one), λ h. kept ∙ both.1 h)
          ];
      no_more = λ k one.
          elim (cases_eq k count) [
            | inl same ↦ omega (arith, same)
            | inr other ↦ let below = first.no_more k (sym (bit_at_set_other w64 word count within k other) ∙ one) in omega (arith, below)
          ];
    }

    -- one item more, which is not
    pub marks_passed : (P p → ⊥) → MarksFirst patterns P (count + 1) word
    marks_passed fails = record {
      each = λ k q is below.
          elim (cases_eq k count) [
            | inl same ↦ (
              λ one. let low = first.no_more k one in absurd (omega (arith, low, same)),
              λ holds. absurd (fails (subst P (sym (the_item k q same is)) holds)),
            )
            | inr other ↦ first.each k q is (omega (arith, below, other))
          ];
      no_more = λ k one. let low = first.no_more k one in omega (arith, low);
    }

  pub marks_all : (word : ℕ) → MarksFirst patterns P (length patterns) word → Marks patterns P word
  marks_all word first = record {
    each = λ k p is. first.each k p is (slice_get_within patterns k p is);
    no_more = first.no_more;
  }

-- ---- agreement place by place
module _ (patterns : List Pattern) (pattern : Pattern) where
  -- before the first place, all are marked
  pub agree_first : (word : ℕ) → AreFirst (length patterns) word → Marks patterns (AgreeExcept pattern.care pattern) word
  agree_first word all = record {
    each = λ k p is. (λ one place none cares. absurd (zero_is_not_one pattern.care place none cares), λ agree. (all k).1 (slice_get_within patterns k p is));
    no_more = λ k one. (all k).0 one;
  }

  -- one place more
  pub agree_more : (rest less place marks more : ℕ) (one : Bool) → bit_at pattern.care place ≡ 1 → bit_at pattern.value place ≡ (if one then 1 else 0)
      → bit_at rest place ≡ 1 → IsWithoutMark rest place less
      → Marks patterns (AgreeExcept rest pattern) marks → Marks patterns (Allows place one) more → Marks patterns (AgreeExcept less pattern) (bit_and marks more)
  agree_more rest less place marks more one cares bit was without first allow = record {
    each = λ k p is. (λ both. forth k p is both, λ agree. back k p is agree);
    no_more = λ k both. first.no_more k (masked k both).0;
  }
    where
      masked : (k : ℕ) → bit_at (bit_and marks more) k ≡ 1 → (bit_at marks k ≡ 1) × (bit_at more k ≡ 1)
      masked k both =
          let is = bit_at_and marks more k in
          let low = bit_at-lt marks k in
          let low_more = bit_at-lt more k in (omega (arith, is, low, low_more, both), omega (arith, is, low, low_more, both))

      forth : (k : ℕ) (p : Pattern) → slice_get patterns k ≡ Some p → bit_at (bit_and marks more) k ≡ 1 → AgreeExcept less pattern p
      forth k p is both i none first_cares second_cares =
          elim (cases_eq i place) [
            | inl same ↦
                let has : bit_at p.care place ≡ 1 = sym (ap (bit_at p.care) same) ∙ second_cares in
                ap (bit_at pattern.value) same ∙ bit ∙ sym (((allow.each k p is).0 (masked k both).1) has) ∙ sym (ap (bit_at p.value) same)
            | inr other ↦ ((first.each k p is).0 (masked k both).0) i (sym (without.kept i other) ∙ none) first_cares second_cares
          ]

      back : (k : ℕ) (p : Pattern) → slice_get patterns k ≡ Some p → AgreeExcept less pattern p → bit_at (bit_and marks more) k ≡ 1
      back k p is agree =
          let here : bit_at marks k ≡ 1 = (first.each k p is).1 (λ i none. agree i (let apart : i ≢ place = (λ same. zero_is_not_one rest i none (ap (bit_at rest) same ∙ was)) in without.kept i apart ∙ none)) in
          let there : bit_at more k ≡ 1 = (allow.each k p is).1 (λ has. sym (agree place without.taken cares has) ∙ bit) in
          let both = bit_at_and marks more k in omega (arith, both, here, there)

  -- with no place left, they agree
  pub agree_all : (marks : ℕ) → Marks patterns (AgreeExcept 0 pattern) marks → Marks patterns (Agree pattern) marks
  agree_all marks first = record {
    each = λ k p is. (λ one place. (first.each k p is).0 one place (bit_at-zero place), λ agree. (first.each k p is).1 (λ place none. agree place));
    no_more = first.no_more;
  }

  -- with none marked, none agrees
  pub agree_none : (rest : ℕ) → Marks patterns (AgreeExcept rest pattern) 0 → Marks patterns (Agree pattern) 0
  agree_none rest first = record {
    each = λ k p is. (λ one. absurd (none_of_zero k one), λ agree. (first.each k p is).1 (λ place none. agree place));
    no_more = first.no_more;
  }

  -- with all patterns having dashes at all places left, they agree
  pub agree_rest : (rest place width marks : ℕ) → IsFirstMark rest place → width ≤ place
      → ((k i : ℕ) (p : Pattern) → slice_get patterns k ≡ Some p → width ≤ i → bit_at p.care i ≡ 0)
      → Marks patterns (AgreeExcept rest pattern) marks → Marks patterns (Agree pattern) marks
  agree_rest rest place width marks least beyond dashes first = record {
    each = λ k p is. (
      λ one i cares has.
          elim (cases_lt i place) [
            | inl low ↦ (first.each k p is).0 one i (least.before i low) cares has
            | inr high ↦ absurd (zero_is_not_one p.care i (dashes k i p is (omega (arith, high, beyond))) has)
          ],
      λ agree. (first.each k p is).1 (λ i none. agree i),
    );
    no_more = first.no_more;
  }

-- a bit is 1 or 0 by whether it is 1
pub is_its_bit : (word place : ℕ) → bit_at word place ≡ (if bit_at word place == 1 then 1 else 0)
is_its_bit word place = by_digit (bit_at word place) (bit_at-lt word place) where
  by_digit : (d : ℕ) → d < 2 → d ≡ (if d == 1 then 1 else 0)
  by_digit zero below = refl
  by_digit (suc zero) below = refl
  by_digit (suc (suc d)) below = absurd (omega (arith, below))

-- the word of the plane for the bit
pub which : (patterns : List Pattern) (place : ℕ) (one : Bool) (plane : Plane) (word : ℕ)
    → Marks patterns (Allows place false) plane.zeros → Marks patterns (Allows place true) plane.ones → word ≡ (if one then plane.ones else plane.zeros) → Marks patterns (Allows place one) word
which patterns place true plane word zeros ones is = subst (Marks patterns (Allows place true)) (sym is) ones
which patterns place false plane word zeros ones is = subst (Marks patterns (Allows place false)) (sym is) zeros

-- what is left after one mark is taken was there before
pub left_one : (before k after i : ℕ) → IsWithoutMark before k after → bit_at after i ≡ 1 → bit_at before i ≡ 1
left_one before k after i without one =
    elim (cases_eq i k) [
      | inl same ↦ absurd (zero_is_not_one after k without.taken (sym (ap (bit_at after) same) ∙ one))
      | inr other ↦ sym (without.kept i other) ∙ one
    ]
