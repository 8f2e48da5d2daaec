-- Words of bits that are gathered from lists and from sets.
use Rattle.std.proofs.Common.{◌≡◌, ◌↔◌, ◌⊎◌, inl, inr, ℕ, ◌+◌, ◌^◌, ◌<◌, min, Contains, List, [], ◌∷◌, ◌++◌, Some, slice_get, sym, ◌∙◌, ap, subst, arith, bit_and, w64}
use Rattle.std.proofs.lemmas.Bool.{cases_eq, cases_lt}
use Rattle.std.proofs.lemmas.List.Elements.{Contains-append_left, Contains-push, Contains-push_cases}
use Rattle.std.proofs.lemmas.Nat.Bits.{bit_at-lt, bit_at-pow_other, bit_at-pow_same, bit_at-zero, bit_at_above, bit_at_and, bit_at_not, same_from_bits}
use Rattle.std.specs.Int.{bit_at, bit_not}
use Rattle.dependence.specs.declared.sets.ReadSet.{ReadSet}
use Rattle.dependence.specs.SufficientBits.{InWord}
use Rattle.list_facts.specs.Laws.Members.{Contains-none}
use Rattle.part_machines.specs.declared.part_inputs.ReadWords.{ReadWords}
use Rattle.part_machines.specs.Inner.Gathered.{AreWordsOf, HasSetThat}

-- ---- numbers joined to a word
pub numbers_none : (word d : ℕ) → InWord word d ↔ (InWord word d ⊎ Contains [] d)
numbers_none word d = ((λ is. inl is), (λ either. elim either [ inl is ↦ is | inr among ↦ absurd (Contains-none d among) ]))

pub numbers_more : (word all new : ℕ) (front : List ℕ) (number : ℕ) → ((d : ℕ) → InWord all d ↔ (InWord word d ⊎ Contains front d))
    → ((d : ℕ) → InWord new d ↔ (InWord all d ⊎ (d ≡ number))) → (d : ℕ) → InWord new d ↔ (InWord word d ⊎ Contains (front ++ number ∷ []) d)
numbers_more word all new front number before step d = (
  (λ is. elim ((step d).0 is) [
    | inl old ↦ elim ((before d).0 old) [
      | inl in_word ↦ inl in_word
      | inr among ↦ inr (Contains-append_left front (number ∷ []) d among)
    ]
    | inr at ↦ inr (subst (Contains (front ++ number ∷ [])) (sym at) (Contains-push front number))
  ]),
  (λ either. elim either [
    | inl in_word ↦ (step d).1 (inl ((before d).1 (inl in_word)))
    | inr among ↦ elim (Contains-push_cases front number d among) [
      | inl old ↦ (step d).1 (inl ((before d).1 (inr old)))
      | inr at ↦ (step d).1 (inr (sym at))
    ]
  ]),
)

-- ---- sets of gates, one more
module _ (sets : List ReadSet) (gates count : ℕ) (P : ReadSet → Type 0) where
  pub has_more : HasSetThat sets gates count P → HasSetThat sets gates (count + 1) P
  has_more has = record { place = has.place; within = omega (arith, has.within); gate = has.gate; set = has.set; there = has.there; has = has.has }

  -- none among no sets
  pub has_none : HasSetThat sets gates 0 P → ⊥
  has_none has = omega (arith, has.within)

  module _ (set : ReadSet) (there : slice_get sets count ≡ Some set) where
    pub has_here : InWord gates count → P set → HasSetThat sets gates (count + 1) P
    has_here gate has = record { place = count; within = omega arith; gate = gate; set = set; there = there; has = has }

    pub has_cases : HasSetThat sets gates (count + 1) P → HasSetThat sets gates count P ⊎ (InWord gates count × P set)
    has_cases has =
        elim (cases_eq has.place count) [
          | inl at ↦
              let same : Some has.set ≡ Some set = sym has.there ∙ ap (λ (i : ℕ). slice_get sets i) at ∙ there in
              let one : has.set ≡ set = cc in
              inr (subst (InWord gates) at has.gate, subst P one has.has)
          | inr other ↦
              inl (record { place = has.place; within = omega (arith, has.within, other); gate = has.gate; set = has.set; there = has.there; has = has.has })
        ]

pub words_none : (sets : List ReadSet) (gates : ℕ) (read : ReadWords) → read.inputs ≡ 0 → read.latches ≡ 0 → AreWordsOf sets gates 0 read
words_none sets gates read no_inputs no_latches = record {
  inputs = λ a. (
    (λ is. absurd (omega (arith, bit_at-zero a, subst (λ (n : ℕ). InWord n a) no_inputs is))),
    (λ has. absurd (has_none sets gates 0 (λ set. Contains set.inputs a) has)),
  );
  latches = λ c. (
    (λ is. absurd (omega (arith, bit_at-zero c, subst (λ (n : ℕ). InWord n c) no_latches is))),
    (λ has. absurd (has_none sets gates 0 (λ set. Contains set.latches c) has)),
  );
}

module _ (sets : List ReadSet) (gates count : ℕ) (read : ReadWords) (set : ReadSet) (there : slice_get sets count ≡ Some set) (before : AreWordsOf sets gates count read) where
  -- one word, where the gate of the set is in the word
  gathered : (list : ReadSet → List ℕ) (old new d : ℕ) → InWord gates count → InWord old d ↔ HasSetThat sets gates count (λ s. Contains (list s) d)
      → InWord new d ↔ (InWord old d ⊎ Contains (list set) d) → InWord new d ↔ HasSetThat sets gates (count + 1) (λ s. Contains (list s) d)
  gathered list old new d gate known step = (
    (λ is. elim (step.0 is) [
      | inl in_old ↦ has_more sets gates count (λ s. Contains (list s) d) (known.0 in_old)
      | inr among ↦ has_here sets gates count (λ s. Contains (list s) d) set there gate among
    ]),
    (λ has. elim (has_cases sets gates count (λ s. Contains (list s) d) set there has) [
      | inl earlier ↦ step.1 (inl (known.1 earlier))
      | inr here ↦ step.1 (inr here.1)
    ]),
  )

  pub words_more : (new : ReadWords) → InWord gates count → ((a : ℕ) → InWord new.inputs a ↔ (InWord read.inputs a ⊎ Contains set.inputs a))
      → ((c : ℕ) → InWord new.latches c ↔ (InWord read.latches c ⊎ Contains set.latches c)) → AreWordsOf sets gates (count + 1) new
  words_more new gate inputs latches = record {
    inputs = λ a. gathered (λ s. s.inputs) read.inputs new.inputs a gate (before.inputs a) (inputs a);
    latches = λ c. gathered (λ s. s.latches) read.latches new.latches c gate (before.latches c) (latches c);
  }

  passed : (list : ReadSet → List ℕ) (old d : ℕ) → (InWord gates count → ⊥) → InWord old d ↔ HasSetThat sets gates count (λ s. Contains (list s) d)
      → InWord old d ↔ HasSetThat sets gates (count + 1) (λ s. Contains (list s) d)
  passed list old d none known = (
    (λ is. has_more sets gates count (λ s. Contains (list s) d) (known.0 is)),
    (λ has. elim (has_cases sets gates count (λ s. Contains (list s) d) set there has) [
      | inl earlier ↦ known.1 earlier
      | inr here ↦ absurd (none here.0)
    ]),
  )

  pub words_past : (InWord gates count → ⊥) → AreWordsOf sets gates (count + 1) read
  words_past none = record {
    inputs = λ a. passed (λ s. s.inputs) read.inputs a none (before.inputs a);
    latches = λ c. passed (λ s. s.latches) read.latches c none (before.latches c);
  }

-- ---- words
-- a word without bits is 0
pub zero_without_bits : (word : ℕ) → ((d : ℕ) → InWord word d → ⊥) → word ≡ 0
zero_without_bits word none = same_from_bits word 0 each where
  each : (d : ℕ) → bit_at word d ≡ bit_at 0 d
  each d = elim (cases_eq (bit_at word d) 1) [
    | inl one ↦ absurd (none d one)
    | inr other ↦ omega (arith, bit_at-zero d, other, bit_at-lt word d)
  ]

pub none_in_zero : (word d : ℕ) → word ≡ 0 → InWord word d → ⊥
none_in_zero word d at is = omega (arith, bit_at-zero d, subst (λ (n : ℕ). InWord n d) at is)

-- the word 1 has bit 0 alone
pub in_one : (a : ℕ) → InWord 1 a ↔ (a ≡ 0)
in_one a = (
  (λ is. elim (cases_eq a 0) [
    | inl at ↦ at
    | inr other ↦ absurd (omega (arith, is, bit_at-pow_other 0 a other))
  ]),
  (λ at. subst (InWord 1) (sym at) (bit_at-pow_same 0)),
)

-- the words of both
pub bits_without : (word other c : ℕ) → word < 2 ^ 64 → other < 2 ^ 64 → InWord (bit_and word (bit_not w64 other)) c ↔ (InWord word c × (InWord other c → ⊥))
bits_without word other c small low =
    let both : bit_at (bit_and word (bit_not w64 other)) c ≡ min (bit_at word c) (bit_at (bit_not w64 other) c) = bit_at_and word (bit_not w64 other) c in
    elim (cases_lt c 64) [
      | inr above ↦
          let none : bit_at word c ≡ 0 = bit_at_above word 64 c small above in
          ((λ is. absurd (omega (arith, none, both, is))), (λ is. absurd (omega (arith, none, is.0))))
      | inl below ↦
          let turned : bit_at (bit_not w64 other) c + bit_at other c ≡ 1 =
          omega (arith, bit_at_not w64 other c low below, bit_at-lt other c) in (
            (λ is. (omega (arith, both, is, bit_at-lt word c, bit_at-lt (bit_not w64 other) c), λ in_other. absurd (omega (arith, both, is, turned, in_other)))),
            (λ is. elim (cases_eq (bit_at other c) 1) [
              | inl one ↦ absurd (is.1 one)
              | inr none ↦ omega (arith, both, is.0, turned, none, bit_at-lt other c)
            ]),
          )
    ]
