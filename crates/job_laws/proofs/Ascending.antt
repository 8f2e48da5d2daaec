-- Ascending lists of the same values are one.
use Rattle.std.proofs.Common.{◌≡◌, ℕ, zero, suc, ◌+◌, ◌<◌, ◌≤◌, inl, inr, AllPairs, Contains, List, [], ◌∷◌, get_or, length, refl, sym, subst, arith}
use Rattle.std.proofs.lemmas.List.Elements.{All-contains}
use Rattle.hs_lattice.specs.Listing.{Evidence, Lists}
use Rattle.list_facts.specs.Laws.Members.{Contains-cons, Contains-here, Contains-none, Contains-there}

cons_same : {M : Type 0} (x y : M) (xs ys : List M) → x ≡ y → xs ≡ ys → ◌≡◌ {A = List M} (x ∷ xs) (y ∷ ys)
cons_same x y xs ys head tail = cc

-- the first item comes before each other
first_before : {M : Type 0} (R : M → M → Type 0) (x : M) (xs : List M) (z : M) → AllPairs R (x ∷ xs) → Contains xs z → R x z
first_before {M} R x xs z pairs (k, within, is) = subst (λ (w : M). R x w) is (pairs 0 (suc k) z (omega arith) (omega (arith, within)))

rest_pairs : {M : Type 0} (R : M → M → Type 0) (x : M) (xs : List M) → AllPairs R (x ∷ xs) → AllPairs R xs
rest_pairs R x xs pairs i j d lt within = pairs (suc i) (suc j) d (omega (arith, lt)) (omega (arith, within))

-- no two values come before each other
module _ {M : Type 0} (R : M → M → Type 0) (apart : (x y : M) → R x y → R y x → ⊥) where
  -- what comes after the first item is among the others
  among_rest : (y z : M) (ys : List M) → R y z → Contains (y ∷ ys) z → Contains ys z
  among_rest y z ys before among =
      elim (Contains-cons y z ys among) [
        | inl same ↦ let itself : R y y = subst (λ (w : M). R y w) (sym same) before in absurd (apart y y itself itself)
        | inr later ↦ later
      ]

  same_heads : (x y : M) (xs ys : List M) → AllPairs R (x ∷ xs) → AllPairs R (y ∷ ys) → Contains (y ∷ ys) x → Contains (x ∷ xs) y → x ≡ y
  same_heads x y xs ys one two in_two in_one =
      elim (Contains-cons y x ys in_two) [
        | inl same ↦ sym same
        | inr later ↦ elim (Contains-cons x y xs in_one) [
          | inl same ↦ same
          | inr other ↦ absurd (apart x y (first_before R x xs y one other) (first_before R y ys x two later))
        ]
      ]

  rest_among : (x y : M) (xs ys : List M) (z : M) → x ≡ y → AllPairs R (x ∷ xs) → Contains (y ∷ ys) z → Contains xs z → Contains ys z
  rest_among x y xs ys z same one there among =
      among_rest y z ys (subst (λ (w : M). R w z) same (first_before R x xs z one among)) there

  ascending_once : (xs ys : List M) → AllPairs R xs → AllPairs R ys → ((z : M) → Contains xs z → Contains ys z) → ((z : M) → Contains ys z → Contains xs z) → xs ≡ ys
  ascending_once [] [] one two to from = refl
  ascending_once [] (y ∷ ys) one two to from = absurd (Contains-none y (from y (Contains-here y ys)))
  ascending_once (x ∷ xs) [] one two to from = absurd (Contains-none x (to x (Contains-here x xs)))
  ascending_once (x ∷ xs) (y ∷ ys) one two to from =
      let head : x ≡ y = same_heads x y xs ys one two (to x (Contains-here x xs)) (from y (Contains-here y ys)) in
      cons_same x y xs ys head
      (ascending_once xs ys (rest_pairs R x xs one) (rest_pairs R y ys two)
      (λ z among. rest_among x y xs ys z head one (to z (Contains-there x z xs among)) among)
      (λ z among. rest_among y x ys xs z (sym head) two (from z (Contains-there y z ys among)) among))

  -- all of xs is later than y, if its first item is
  all_later : (x y : M) (xs ys : List M) → AllPairs R (x ∷ xs) → AllPairs R (y ∷ ys) → ((z : M) → Contains (x ∷ xs) z → Contains (y ∷ ys) z) → Contains ys x → (z : M) → Contains (x ∷ xs) z → Contains ys z
  all_later x y xs ys one two to first z among =
      elim (Contains-cons x z xs among) [
        | inl same ↦ subst (λ (w : M). Contains ys w) same first
        | inr rest ↦ elim (Contains-cons y z ys (to z among)) [
          | inl same ↦ absurd (apart x y (subst (λ (w : M). R x w) (sym same) (first_before R x xs z one rest)) (first_before R y ys x two first))
          | inr later ↦ later
        ]
      ]

  -- a list of some of the values is no longer
  no_longer : (xs ys : List M) → AllPairs R xs → AllPairs R ys → ((z : M) → Contains xs z → Contains ys z) → length xs ≤ length ys
  no_longer [] ys one two to = omega arith
  no_longer (x ∷ xs) [] one two to = absurd (Contains-none x (to x (Contains-here x xs)))
  no_longer (x ∷ xs) (y ∷ ys) one two to =
      elim (Contains-cons y x ys (to x (Contains-here x xs))) [
        | inl same ↦
            let rest : length xs ≤ length ys =
            no_longer xs ys (rest_pairs R x xs one) (rest_pairs R y ys two) (λ z among. rest_among x y xs ys z (sym same) one (to z (Contains-there x z xs among)) among) in
            omega (arith, rest)
        | inr later ↦
            let rest : length (x ∷ xs) ≤ length ys = no_longer (x ∷ xs) ys one (rest_pairs R y ys two) (all_later x y xs ys one two to later) in
            omega (arith, rest)
      ]

  -- there is one list of all values with a property
  pub lists_once : (P : M → Type 0) (xs ys : List M) → Lists R P xs → Lists R P ys → xs ≡ ys
  lists_once P xs ys one two =
      ascending_once xs ys one.ascending two.ascending
      (λ z among. two.complete z (All-contains P xs z one.members among))
      (λ z among. one.complete z (All-contains P ys z two.members among))

  -- and no evidence that there are more
  pub never_more : (P : M → Type 0) (limit : ℕ) (xs ys : List M) → Lists R P xs → length xs ≤ limit → Evidence R P limit ys → ⊥
  never_more P limit xs ys lists few evidence =
      let rest : length ys ≤ length xs =
      no_longer ys xs evidence.ascending lists.ascending (λ z among. lists.complete z (All-contains P ys z evidence.members among)) in
      omega (arith, rest, few, evidence.more)
