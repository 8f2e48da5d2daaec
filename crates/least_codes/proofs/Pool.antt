-- All lists of as many numbers below a number.
use Rattle.std.proofs.Common.{◌≡◌, ◌⊎◌, ℕ, zero, suc, ◌<◌, List, [], ◌∷◌, ◌++◌, length, get_or, inl, inr, refl, ap, subst, arith}
use Rattle.std.proofs.lemmas.Bool.{cases_eq}

-- one of these lists
abbrev pub In : List (List ℕ) → List ℕ → Type 0
In [] list = ⊥
In (first ∷ rest) list = (first ≡ list) ⊎ In rest list

in_front : (lists others : List (List ℕ)) (list : List ℕ) → In lists list → In (lists ++ others) list
in_front [] others list is = absurd is
in_front (first ∷ rest) others list is = elim is [ inl here ↦ inl here | inr later ↦ inr (in_front rest others list later) ]

in_back : (lists others : List (List ℕ)) (list : List ℕ) → In others list → In (lists ++ others) list
in_back [] others list is = is
in_back (first ∷ rest) others list is = inr (in_back rest others list is)

-- the lists with a number ahead of each
abbrev ahead : ℕ → List (List ℕ) → List (List ℕ)
ahead v [] = []
ahead v (list ∷ rest) = (v ∷ list) ∷ ahead v rest

in_ahead : (v : ℕ) (lists : List (List ℕ)) (list : List ℕ) → In lists list → In (ahead v lists) (v ∷ list)
in_ahead v [] list is = absurd is
in_ahead v (first ∷ rest) list is =
    elim is [
      | inl here ↦ inl (ap (λ (one : List ℕ). v ∷ one) here)
      | inr later ↦ inr (in_ahead v rest list later)
    ]

-- with each number below k ahead
with_each : ℕ → List (List ℕ) → List (List ℕ)
with_each zero lists = []
with_each (suc k) lists = ahead k lists ++ with_each k lists

in_each : (k v : ℕ) (lists : List (List ℕ)) (list : List ℕ) → v < k → In lists list → In (with_each k lists) (v ∷ list)
unfolding with_each
in_each zero v lists list below is = absurd (omega (arith, below))
in_each (suc k) v lists list below is =
    elim (cases_eq v k) [
      | inl at ↦ in_front (ahead k lists) (with_each k lists) (v ∷ list) (subst (λ (u : ℕ). In (ahead u lists) (v ∷ list)) at (in_ahead v lists list is))
      | inr other ↦ in_back (ahead k lists) (with_each k lists) (v ∷ list) (in_each k v lists list (omega (arith, below, other)) is)
    ]

pub all_lists : (values n : ℕ) → List (List ℕ)
all_lists values zero = [] ∷ []
all_lists values (suc n) = with_each values (all_lists values n)

pub in_all : (values n : ℕ) (list : List ℕ) → length list ≡ n → ((s : ℕ) → s < n → get_or list s 0 < values) → In (all_lists values n) list
unfolding all_lists
in_all values zero [] size small = inl refl
in_all values zero (v ∷ list) size small = absurd (omega (arith, size))
in_all values (suc n) [] size small = absurd (omega (arith, size))
in_all values (suc n) (v ∷ list) size small =
    in_each values v (all_lists values n) list (small 0 (omega arith)) (in_all values n list (omega (arith, size)) (λ s below. small (suc s) (omega (arith, below))))
