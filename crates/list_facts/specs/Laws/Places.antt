-- What is at a place of a list.
use Rattle.std.proofs.Common.{◌≡◌, ℕ, zero, suc, ◌+◌, ◌<◌, ◌≤◌, ◌⊎◌, inl, inr, All, Some, List, [], ◌∷◌, ◌++◌, length, map, get_or, slice_get, refl, sym, ap, ◌∙◌, subst, arith}
use Rattle.std.specs.List.Sorted.{IsStrictlyIncreasing}
use Rattle.std.proofs.lemmas.Bool.{cases_lt}
use Rattle.std.proofs.lemmas.List.{get_or_append_left, get_or_push}
use Rattle.std.proofs.lemmas.Option.{slice_get-get_or}

pub item_at : {X : Type 0} (xs : List X) (k : ℕ) → k < length xs → (x : X) × (slice_get xs k ≡ Some x)
item_at [] k lt = absurd (omega arith)
item_at (x ∷ xs) k lt = (get_or (x ∷ xs) k x, slice_get-get_or (x ∷ xs) k x lt)

-- ---- one list after another
pub get_first : {X : Type 0} (xs ys : List X) (k : ℕ) (x : X) → slice_get xs k ≡ Some x → slice_get (xs ++ ys) k ≡ Some x
get_first [] ys k x is = cc
get_first (y ∷ xs) ys zero x is = is
get_first (y ∷ xs) ys (suc k) x is = get_first xs ys k x is

pub get_behind : {X : Type 0} (xs ys : List X) (k : ℕ) → slice_get (xs ++ ys) (length xs + k) ≡ slice_get ys k
get_behind {X} [] ys k = let e : 0 + k ≡ k = omega arith in ap (λ (n : ℕ). slice_get ys n) e
get_behind {X} (x ∷ xs) ys k =
    let e : length (x ∷ xs) + k ≡ suc (length xs + k) = omega arith in
    ap (λ (n : ℕ). slice_get (x ∷ (xs ++ ys)) n) e ∙ get_behind xs ys k

pub get_cases : {X : Type 0} (xs ys : List X) (k : ℕ) (x : X) → slice_get (xs ++ ys) k ≡ Some x
    → (slice_get xs k ≡ Some x) ⊎ ((j : ℕ) × (k ≡ length xs + j) × (slice_get ys j ≡ Some x))
get_cases [] ys k x is = inr (k, omega arith, is)
get_cases (y ∷ xs) ys zero x is = inl is
get_cases (y ∷ xs) ys (suc k) x is =
    elim (get_cases xs ys k x is) [
      | inl first ↦ inl first
      | inr behind ↦ inr (behind.0, (let e = behind.1 in omega arith), behind.2)
    ]

-- ---- one element more
-- what holds at each place of a list, and at the next place of the element that is pushed, holds at each place of the longer list
pub each_pushed : {X : Type 0} (xs more : List X) (x d : X) (n : ℕ) (P : ℕ → X → Type 0) → length xs ≡ n → more ≡ xs ++ x ∷ []
    → ((k : ℕ) → k < n → P k (get_or xs k d)) → P n x → (k : ℕ) → k < n + 1 → P k (get_or more k d)
each_pushed {X} xs more x d n P size is known last k below =
    subst (λ (ys : List X). P k (get_or ys k d)) (sym is)
    (elim (cases_lt k n) [
      | inl before ↦ subst (P k) (sym (get_or_append_left xs (x ∷ []) d k (omega (arith, size, before)))) (known k before)
      | inr after ↦
          let at : n ≡ k = omega (arith, below, after) in
          subst (P k) (sym (get_or_push xs x d k (size ∙ at))) (subst (λ (i : ℕ). P i x) at last)
    ])

-- ---- the values of a function
pub get_map : {X Y : Type 0} (f : X → Y) (xs : List X) (k : ℕ) (x : X) → slice_get xs k ≡ Some x → slice_get (map f xs) k ≡ Some (f x)
get_map f [] k x is = cc
get_map {X} {Y} f (y ∷ xs) zero x is = let same : y ≡ x = cc in ap (λ (z : X). Some (f z)) same
get_map f (y ∷ xs) (suc k) x is = get_map f xs k x is

pub from_map : {X Y : Type 0} (f : X → Y) (xs : List X) (k : ℕ) (y : Y) → slice_get (map f xs) k ≡ Some y → (x : X) × (slice_get xs k ≡ Some x) × (f x ≡ y)
from_map f [] k y is = absurd (cc)
from_map f (x ∷ xs) zero y is = (x, refl, cc)
from_map f (x ∷ xs) (suc k) y is = from_map f xs k y is

-- ---- numbers that ascend below a bound are no more than it
pub ascending_count : (n : ℕ) (xs : List ℕ) → IsStrictlyIncreasing xs → All (λ a. a < n) xs → length xs ≤ n
ascending_count n xs ascend below = by (length xs) refl
  where
    at_least : (k : ℕ) → k < length xs → k ≤ get_or xs k 0
    at_least zero lt = omega arith
    at_least (suc k) lt =
        let e : k + 1 ≡ suc k = omega arith in
        let step : get_or xs k 0 < get_or xs (suc k) 0 = subst (λ (j : ℕ). get_or xs k 0 < get_or xs j 0) e (ascend k (omega (arith, lt))) in
        omega (arith, step, at_least k (omega (arith, lt)))

    by : (count : ℕ) → length xs ≡ count → length xs ≤ n
    by zero is = omega arith
    by (suc m) is = omega (arith, is, at_least m (omega (arith, is)), below m 0 (omega (arith, is)))
