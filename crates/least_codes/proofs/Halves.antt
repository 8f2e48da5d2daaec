-- Each bit of a code of as few bits as its states need is 1 for some state.
use Rattle.std.proofs.Common.{◌≡◌, ◌⊎◌, ◌∙◌, ℕ, zero, suc, ◌+◌, ◌*◌, ◌-◌, ◌%◌, ◌^◌, ◌<◌, ◌≤◌, ◌||◌, Bool, true, false, List, [], ◌∷◌, ◌++◌, length, get_or, eqb, inl, inr, refl, ap, sym, subst, arith, length-append}
use Rattle.std.proofs.lemmas.Bool.{cases_eq, cases_lt, eqb-true, false≢true}
use Rattle.std.proofs.lemmas.List.{get_or_append_left, get_or-append_right, get_or_default}
use Rattle.std.proofs.lemmas.Map.Keys.{IsDistinct-from_apart}
use Rattle.std.proofs.lemmas.Map.Steps.{length-le_from_distinct_below}
use Rattle.std.proofs.lemmas.Nat.{pow_below}
use Rattle.std.proofs.lemmas.Nat.Bits.{bit_at-lt, bit_at_xor, bit_at-pow_same}
use Rattle.std.specs.Int.{bit_at}
use Rattle.std.specs.List.{list_any}
use Rattle.cubes.specs.Laws.Numbers.{pow-suc}
use Rattle.state_codes.specs.Code.{need}
use Rattle.state_codes.specs.Laws.Need.{need-least}
use Rattle.least_codes.specs.LeastCode.{AreCodeWords}
use Rattle.least_codes.proofs.Turning.{turned, turned_at, turned_codes}

-- some state has the bit, or none has it
pub some_or_none : (words : List ℕ) (i k : ℕ) → ((s : ℕ) × (s < k) × (bit_at (get_or words s 0) i ≡ 1)) ⊎ ((s : ℕ) → s < k → bit_at (get_or words s 0) i ≡ 0)
some_or_none words i zero = inr (λ s below. absurd (omega (arith, below)))
some_or_none words i (suc k) =
    elim (some_or_none words i k) [
      | inl found ↦ inl (found.0, omega (arith, found.1), found.2)
      | inr none ↦ elim (cases_eq (bit_at (get_or words k 0) i) 1) [
        | inl one ↦ inl (k, omega arith, one)
        | inr other ↦ inr (λ s below. elim (cases_eq s k) [
          | inl at ↦ subst (λ (t : ℕ). bit_at (get_or words t 0) i ≡ 0) (sym at) (omega (arith, other, bit_at-lt (get_or words k 0) i))
          | inr less ↦ none s (omega (arith, below, less))
        ])
      ]
    ]

-- what a list has is below what all of it is below
any_below : (xs : List ℕ) (n : ℕ) → ((k : ℕ) → k < length xs → get_or xs k 0 < n) → (q : ℕ) → list_any (eqb q) xs ≡ true → q < n
any_below [] n below q is = absurd (false≢true is)
any_below (x ∷ xs) n below q is =
    elim (cases_eq q x) [
      | inl at ↦ subst (λ (y : ℕ). y < n) (sym at) (below 0 (omega arith))
      | inr other ↦ any_below xs n (λ k within. below (suc k) (omega (arith, within))) q (ap (λ (b : Bool). b || list_any (eqb q) xs) (sym (test_false q x other)) ∙ is)
    ]
  where
    test_false : (a b : ℕ) → (a ≡ b → ⊥) → eqb a b ≡ false
    test_false a b other = elim (bool_cases (eqb a b)) [ inl equal ↦ absurd (other (eqb-true a b equal)) | inr unequal ↦ unequal ] where
      bool_cases : (b : Bool) → (b ≡ true) ⊎ (b ≡ false)
      bool_cases true = inl refl
      bool_cases false = inr refl

-- different numbers below n are at most n
pub few_below : (xs : List ℕ) (n : ℕ) → ((i j : ℕ) → i < j → j < length xs → get_or xs i 0 ≡ get_or xs j 0 → ⊥) → ((k : ℕ) → k < length xs → get_or xs k 0 < n) → length xs ≤ n
few_below xs n apart below =
    length-le_from_distinct_below xs n (IsDistinct-from_apart eqb xs (λ i j d before within. test_false (get_or xs i d) (get_or xs j d) (λ same. apart i j before within (defaults i d (omega (arith, before, within)) ∙ same ∙ sym (defaults j d within))))) (any_below xs n below)
  where
    test_false : (a b : ℕ) → (a ≡ b → ⊥) → eqb a b ≡ false
    test_false a b other = elim (bool_cases (eqb a b)) [ inl equal ↦ absurd (other (eqb-true a b equal)) | inr unequal ↦ unequal ] where
      bool_cases : (b : Bool) → (b ≡ true) ⊎ (b ≡ false)
      bool_cases true = inl refl
      bool_cases false = inr refl

    defaults : (i d : ℕ) → i < length xs → get_or xs i 0 ≡ get_or xs i d
    defaults i d within = get_or_default xs i 0 d within

-- codes that all have a 0 at one bit, and those with a 1 there in its place, are twice as many
module _ (n bits : ℕ) (words : List ℕ) (i : ℕ) (codes : AreCodeWords n bits words) (within : i < bits) (none : (s : ℕ) → s < n → bit_at (get_or words s 0) i ≡ 0) where
  flipped : List ℕ
  flipped = turned (2 ^ i) words

  flipped_codes : AreCodeWords n bits flipped
  unfolding flipped
  flipped_codes = turned_codes n words codes.count (2 ^ i) bits (pow_below i bits within) codes

  flipped_one : (s : ℕ) → s < n → bit_at (get_or flipped s 0) i ≡ 1
  unfolding flipped
  flipped_one s below =
      let turned_bit : bit_at (get_or (turned (2 ^ i) words) s 0) i ≡ (bit_at (get_or words s 0) i + bit_at (2 ^ i) i) % 2 = ap (λ (word : ℕ). bit_at word i) (turned_at n words codes.count (2 ^ i) s below) ∙ bit_at_xor (get_or words s 0) (2 ^ i) i in
      omega (arith, turned_bit, none s below, bit_at-pow_same i)

  left : (k : ℕ) → k < n → get_or (words ++ flipped) k 0 ≡ get_or words k 0
  left k below = get_or_append_left words flipped 0 k (omega (arith, below, codes.count))

  right : (k : ℕ) → n ≤ k → get_or (words ++ flipped) k 0 ≡ get_or flipped (k - n) 0
  right k above = get_or-append_right words flipped n k 0 codes.count above

  both : length (words ++ flipped) ≡ n + n
  both = omega (arith, length-append words flipped, codes.count, flipped_codes.count)

  pub twice : n + n ≤ 2 ^ bits
  twice = subst (λ (m : ℕ). m ≤ 2 ^ bits) both (few_below (words ++ flipped) (2 ^ bits) apart small) where
    small : (k : ℕ) → k < length (words ++ flipped) → get_or (words ++ flipped) k 0 < 2 ^ bits
    small k below = elim (cases_lt k n) [
      | inl low ↦ subst (λ (word : ℕ). word < 2 ^ bits) (sym (left k low)) (codes.short k low)
      | inr high ↦ subst (λ (word : ℕ). word < 2 ^ bits) (sym (right k high)) (flipped_codes.short (k - n) (omega (arith, high, below, both)))
    ]

    apart : (a b : ℕ) → a < b → b < length (words ++ flipped) → get_or (words ++ flipped) a 0 ≡ get_or (words ++ flipped) b 0 → ⊥
    apart a b before below same = elim (cases_lt b n) [
      | inl low ↦
          let at : a ≡ b = codes.distinct a b (omega (arith, before, low)) low (sym (left a (omega (arith, before, low))) ∙ same ∙ left b low) in
          omega (arith, at, before)
      | inr high ↦ elim (cases_lt a n) [
        | inl first ↦
            let zero_bit : bit_at (get_or words a 0) i ≡ 0 = none a first in
            let one_bit : bit_at (get_or flipped (b - n) 0) i ≡ 1 = flipped_one (b - n) (omega (arith, high, below, both)) in
            let one : get_or words a 0 ≡ get_or flipped (b - n) 0 = sym (left a first) ∙ same ∙ right b high in
            omega (arith, zero_bit, one_bit, ap (λ (word : ℕ). bit_at word i) one)
        | inr second ↦
            let at : a - n ≡ b - n = flipped_codes.distinct (a - n) (b - n) (omega (arith, second, before, high, below, both)) (omega (arith, high, below, both)) (sym (right a second) ∙ same ∙ right b high) in
            omega (arith, at, before, second, high)
      ]
    ]

-- so with as few bits as they need, some state has the bit
pub some_one : (n : ℕ) (words : List ℕ) (i : ℕ) → AreCodeWords n (need n) words → i < need n → (s : ℕ) × (s < n) × (bit_at (get_or words s 0) i ≡ 1)
some_one n words i codes within =
    elim (some_or_none words i n) [
      | inl found ↦ found
      | inr none ↦
          let few : n + n ≤ 2 ^ need n = twice n (need n) words i codes within none in
          let half : 2 ^ need n ≡ 2 * 2 ^ (need n - 1) = pow_half (need n) (omega (arith, within)) in
          let fewer : need n ≤ need n - 1 = need-least n (need n - 1) (omega (arith, few, half)) in
          absurd (omega (arith, fewer, within))
    ] where
      pow_half : (k : ℕ) → 0 < k → 2 ^ k ≡ 2 * 2 ^ (k - 1)
      pow_half zero some = absurd (omega (arith, some))
      pow_half (suc k) some = let less : suc k - 1 ≡ k = omega arith in omega (arith, ap (λ (j : ℕ). 2 ^ j) less, pow-suc k)
