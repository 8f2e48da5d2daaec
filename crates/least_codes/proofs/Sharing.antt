-- Of five states with codes of three bits, two agree on the first two bits.
use Rattle.std.proofs.Common.{◌≡◌, ◌⊎◌, ◌∙◌, ℕ, zero, suc, ◌+◌, ◌*◌, ◌<◌, ◌≤◌, Bool, Contains, List, [], ◌∷◌, length, get_or, map, inl, inr, ap, subst, sym, arith}
use Rattle.std.proofs.lemmas.Bool.{cases_eq}
use Rattle.std.proofs.lemmas.List.{get_or-map, length-map}
use Rattle.std.proofs.lemmas.List.FromFn.{get_or-range_with_len, length-range_with_len}
use Rattle.std.proofs.lemmas.Nat.Bits.{bit_at-lt, same_from_bits_below}
use Rattle.std.specs.Int.{bit_at}
use Rattle.std.specs.List.{range_with_len}
use Rattle.kiss_file.specs.declared.file.KissFile.{KissFile}
use Rattle.state_codes.specs.Agreement.{CodesAgreeAt}
use Rattle.dependence.specs.SufficientBits.{PermitsValue}
use Rattle.least_codes.specs.LeastCode.{AreCodeWords}
use Rattle.least_codes.proofs.Greedy.{of_one, of_two}
use Rattle.least_codes.proofs.Halves.{few_below}

-- two of the first k numbers at which the function gives the same
record Share (f : ℕ → ℕ) (k : ℕ) : Type 0 where
  one : ℕ
  two : ℕ
  order : one < two
  within : two < k
  same : f one ≡ f two

-- one of the first k at which it gives this number, or there is none
given_or_not : (f : ℕ → ℕ) (y k : ℕ) → ((s : ℕ) × (s < k) × (f s ≡ y)) ⊎ ((s : ℕ) → s < k → f s ≡ y → ⊥)
given_or_not f y zero = inr (λ s below same. omega (arith, below))
given_or_not f y (suc k) =
    elim (given_or_not f y k) [
      | inl found ↦ inl (found.0, omega (arith, found.1), found.2)
      | inr none ↦ elim (cases_eq (f k) y) [
        | inl here ↦ inl (k, omega arith, here)
        | inr other ↦ inr (λ s below same. elim (cases_eq s k) [
          | inl at ↦ other (ap f (sym at) ∙ same)
          | inr less ↦ none s (omega (arith, below, less)) same
        ])
      ]
    ]

share_or_not : (f : ℕ → ℕ) (k : ℕ) → Share f k ⊎ ((s t : ℕ) → s < t → t < k → f s ≡ f t → ⊥)
share_or_not f zero = inr (λ s t order below same. omega (arith, below))
share_or_not f (suc k) =
    elim (share_or_not f k) [
      | inl found ↦ inl (record { one = found.one; two = found.two; order = found.order; within = omega (arith, found.within); same = found.same })
      | inr none ↦ elim (given_or_not f (f k) k) [
        | inl found ↦ inl (record { one = found.0; two = k; order = found.1; within = omega arith; same = found.2 })
        | inr new ↦ inr (λ s t order below same. elim (cases_eq t k) [
          | inl at ↦ new s (omega (arith, order, at)) (same ∙ ap f at)
          | inr less ↦ none s t order (omega (arith, below, less)) same
        ])
      ]
    ]

-- the first numbers
firsts : (ℕ → ℕ) → ℕ → List ℕ
firsts f k = map f (range_with_len 0 k)

length-firsts : (f : ℕ → ℕ) (k : ℕ) → length (firsts f k) ≡ k
unfolding firsts
length-firsts f k = length-map (range_with_len 0 k) f ∙ length-range_with_len 0 k

get_or-firsts : (f : ℕ → ℕ) (k s : ℕ) → s < k → get_or (firsts f k) s 0 ≡ f s
unfolding firsts
get_or-firsts f k s below = get_or-map f (range_with_len 0 k) s 0 0 (omega (arith, below, length-range_with_len 0 k)) ∙ ap f (get_or-range_with_len 0 k s 0 below ∙ omega arith)

-- more numbers than values
some_share : (f : ℕ → ℕ) (k values : ℕ) → values < k → ((s : ℕ) → s < k → f s < values) → Share f k
some_share f k values more small =
    elim (share_or_not f k) [
      | inl found ↦ found
      | inr none ↦ absurd (omega (arith, more, length-firsts f k, few none))
    ]
  where
    in_k : (s : ℕ) → s < length (firsts f k) → s < k
    in_k s within = omega (arith, within, length-firsts f k)

    few : ((s t : ℕ) → s < t → t < k → f s ≡ f t → ⊥) → length (firsts f k) ≤ values
    few none =
        few_below (firsts f k) values
        (λ i j order within same. none i j order (in_k j within) (sym (get_or-firsts f k i (in_k i (omega (arith, order, within)))) ∙ same ∙ get_or-firsts f k j (in_k j within)))
        (λ s within. subst (λ (v : ℕ). v < values) (sym (get_or-firsts f k s (in_k s within))) (small s (in_k s within)))

-- the first two bits of a code
front : List ℕ → ℕ → ℕ
front words s = bit_at (get_or words s 0) 0 + 2 * bit_at (get_or words s 0) 1

module _ (F : KissFile) (words : List ℕ) (value : ℕ → List Bool → Bool) (many : 4 < length F.states) (codes : AreCodeWords (length F.states) 3 words) where
  small : (s : ℕ) → s < 5 → front words s < 4
  unfolding front
  small s below = omega (arith, bit_at-lt (get_or words s 0) 0, bit_at-lt (get_or words s 0) 1)

  two : Share (front words) 5
  two = some_share (front words) 5 4 (omega arith) small

  low : CodesAgreeAt words 0 two.one two.two
  unfolding front
  low = omega (arith, two.same, bit_at-lt (get_or words two.one 0) 0, bit_at-lt (get_or words two.two 0) 0, bit_at-lt (get_or words two.one 0) 1, bit_at-lt (get_or words two.two 0) 1)

  middle : CodesAgreeAt words 1 two.one two.two
  unfolding front
  middle = omega (arith, two.same, bit_at-lt (get_or words two.one 0) 0, bit_at-lt (get_or words two.two 0) 0, bit_at-lt (get_or words two.one 0) 1, bit_at-lt (get_or words two.two 0) 1)

  in_one : two.one < length F.states
  in_one = omega (arith, two.order, two.within, many)

  in_two : two.two < length F.states
  in_two = omega (arith, two.within, many)

  high : CodesAgreeAt words 2 two.one two.two → ⊥
  high agree =
      let word : get_or words two.one 0 ≡ get_or words two.two 0 = same_from_bits_below 3 (get_or words two.one 0) (get_or words two.two 0) (codes.short two.one in_one) (codes.short two.two in_two) all in
      omega (arith, codes.distinct two.one two.two in_one in_two word, two.order)
    where
      all : (i : ℕ) → i < 3 → CodesAgreeAt words i two.one two.two
      all zero below = low
      all (suc zero) below = middle
      all (suc (suc zero)) below = agree
      all (suc (suc (suc i))) below = absurd (omega (arith, below))

  -- where bits 0 and 1 permit a value and bit 2 does, it is the same at all states
  module _ (front_permits : PermitsValue F words (Contains (0 ∷ 1 ∷ [])) value) (last_permits : PermitsValue F words (Contains (2 ∷ [])) value) where
    as_one : (u : ℕ) (x : List Bool) → u < length F.states → length x ≡ F.inputs → value u x ≡ value two.one x
    as_one u x within size =
        elim (cases_eq (bit_at (get_or words u 0) 2) (bit_at (get_or words two.one 0) 2)) [
          | inl same ↦ last_permits u two.one x within in_one (of_one (λ c. CodesAgreeAt words c u two.one) 2 same) size
          | inr other ↦
              let same : CodesAgreeAt words 2 u two.two = as_two u other in
              last_permits u two.two x within in_two (of_one (λ c. CodesAgreeAt words c u two.two) 2 same) size
              ∙ sym (front_permits two.one two.two x in_one in_two (of_two (λ c. CodesAgreeAt words c two.one two.two) 0 1 low middle) size)
        ]
      where
        as_two : (u : ℕ) → (bit_at (get_or words u 0) 2 ≡ bit_at (get_or words two.one 0) 2 → ⊥) → CodesAgreeAt words 2 u two.two
        as_two u other =
            elim (cases_eq (bit_at (get_or words u 0) 2) (bit_at (get_or words two.two 0) 2)) [
              | inl same ↦ same
              | inr apart ↦ absurd (high (omega (arith, other, apart, bit_at-lt (get_or words u 0) 2, bit_at-lt (get_or words two.one 0) 2, bit_at-lt (get_or words two.two 0) 2)))
            ]

    pub same_at_all : (R : ℕ → Type 0) → PermitsValue F words R value
    same_at_all R s t x in_s in_t agree size = as_one s x in_s size ∙ sym (as_one t x in_t size)
