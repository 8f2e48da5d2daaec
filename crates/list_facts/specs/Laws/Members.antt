-- What is in a list that is made of others.
use Rattle.std.proofs.Common.{◌≡◌, ℕ, zero, suc, ◌⊎◌, inl, inr, Bool, true, false, cond, Option, Some, None, List, [], ◌∷◌, Contains, filter, get_or, map, take, refl, sym, ap, ◌∙◌, subst, arith}
use Rattle.std.specs.List.{cons_option, filter_map, list_any}
use Rattle.std.proofs.lemmas.Bool.{cases_Bool, cases_eq, false≢true, or_cases, or_parts}
use Rattle.std.proofs.lemmas.List.{get_or-map, length-map}

-- ---- a first item and the others
pub Contains-none : {X : Type 0} (x : X) → Contains [] x → ⊥
Contains-none x (k, lt, is) = absurd (omega arith)

pub Contains-here : {X : Type 0} (x : X) (xs : List X) → Contains (x ∷ xs) x
Contains-here x xs = (0, omega arith, refl)

pub Contains-there : {X : Type 0} (y x : X) (xs : List X) → Contains xs x → Contains (y ∷ xs) x
Contains-there y x xs (k, lt, is) = (suc k, omega arith, is)

pub Contains-cons : {X : Type 0} (y x : X) (xs : List X) → Contains (y ∷ xs) x → (y ≡ x) ⊎ Contains xs x
Contains-cons y x xs (zero, lt, is) = inl is
Contains-cons y x xs (suc k, lt, is) = inr (k, omega arith, is)

-- a list of one item has no other
pub Contains-one : {X : Type 0} (x y : X) → Contains (x ∷ []) y → x ≡ y
Contains-one x y among = elim (Contains-cons x y [] among) [ inl same ↦ same | inr none ↦ absurd (Contains-none y none) ]

-- a number is in a list or not
pub among_or_not : (xs : List ℕ) (x : ℕ) → Contains xs x ⊎ (Contains xs x → ⊥)
among_or_not [] x = inr (λ among. Contains-none x among)
among_or_not (y ∷ xs) x =
    elim (cases_eq y x) [
      | inl same ↦ inl (0, omega arith, same)
      | inr other ↦ elim (among_or_not xs x) [
        | inl later ↦ inl (Contains-there y x xs later)
        | inr none ↦ inr (λ among. elim (Contains-cons y x xs among) [ inl same ↦ other same | inr later ↦ none later ])
      ]
    ]

-- an item of the first items
pub Contains-from_take : {X : Type 0} (k : ℕ) (xs : List X) (x : X) → Contains (take k xs) x → Contains xs x
Contains-from_take zero xs x among = absurd (Contains-none x among)
Contains-from_take (suc k) [] x among = absurd (Contains-none x among)
Contains-from_take (suc k) (y ∷ xs) x among =
    elim (Contains-cons y x (take k xs) among) [
      | inl same ↦ subst (λ z. Contains (y ∷ xs) z) same (Contains-here y xs)
      | inr later ↦ Contains-there y x xs (Contains-from_take k xs x later)
    ]

-- ---- the values of a function
pub Contains-map : {X Y : Type 0} (f : X → Y) (xs : List X) (x : X) → Contains xs x → Contains (map f xs) (f x)
Contains-map f xs x (k, lt, is) = (k, omega (arith, lt, length-map xs f), get_or-map f xs k x (f x) lt ∙ ap f is)

pub Contains-from_map : {X Y : Type 0} (f : X → Y) (xs : List X) (y : Y) → Contains (map f xs) y → (x : X) × Contains xs x × (f x ≡ y)
Contains-from_map f [] y among = absurd (Contains-none y among)
Contains-from_map f (x ∷ xs) y among =
    elim (Contains-cons (f x) y (map f xs) among) [
      | inl same ↦ (x, Contains-here x xs, same)
      | inr later ↦ let found = Contains-from_map f xs y later in (found.0, Contains-there x found.0 xs found.1, found.2)
    ]

-- two functions whose values on a list are equal agree on its items
pub agree_from_map : {X : Type 0} (f g : X → Bool) (xs : List X) → map f xs ≡ map g xs → (x : X) → Contains xs x → f x ≡ g x
agree_from_map f g xs same x (k, lt, is) =
    ap f (sym is) ∙ (sym (get_or-map f xs k x false lt) ∙ (ap (λ bs. get_or bs k false) same ∙ (get_or-map g xs k x false lt ∙ ap g is)))

-- ---- what a partial function gives
pub Contains-from_filter_map : {X Y : Type 0} (f : X → Option Y) (xs : List X) (y : Y) → Contains (filter_map f xs) y → (x : X) × Contains xs x × (f x ≡ Some y)
Contains-from_filter_map f [] y among = absurd (Contains-none y among)
Contains-from_filter_map {X} {Y} f (x ∷ xs) y among = by (f x) refl among (Contains-from_filter_map f xs y)
  where
    by : (o : Option Y) → f x ≡ o → Contains (cons_option o (filter_map f xs)) y → (Contains (filter_map f xs) y → (z : X) × Contains xs z × (f z ≡ Some y)) → (z : X) × Contains (x ∷ xs) z × (f z ≡ Some y)
    by None is among later = let found = later among in (found.0, Contains-there x found.0 xs found.1, found.2)
    by (Some w) is among later = elim (Contains-cons w y (filter_map f xs) among) [
      | inl same ↦ (x, Contains-here x xs, is ∙ ap (λ (v : Y). Some v) same)
      | inr rest ↦ let found = later rest in (found.0, Contains-there x found.0 xs found.1, found.2)
    ]

pub Contains-filter_map : {X Y : Type 0} (f : X → Option Y) (xs : List X) (x : X) (y : Y) → Contains xs x → f x ≡ Some y → Contains (filter_map f xs) y
Contains-filter_map f [] x y among is = absurd (Contains-none x among)
Contains-filter_map {X} {Y} f (z ∷ xs) x y among is = elim (Contains-cons z x xs among) [
  | inl same ↦ first (ap f same ∙ is)
  | inr rest ↦ by (f z) (Contains-filter_map f xs x y rest is)
] where
  first : f z ≡ Some y → Contains (cons_option (f z) (filter_map f xs)) y
  first at = subst (λ (o : Option Y). Contains (cons_option o (filter_map f xs)) y) (sym at) (Contains-here y (filter_map f xs))

  by : (o : Option Y) → Contains (filter_map f xs) y → Contains (cons_option o (filter_map f xs)) y
  by None later = later
  by (Some w) later = Contains-there w y (filter_map f xs) later

-- ---- what passes a test
pub Contains-filter : {X : Type 0} (test : X → Bool) (xs : List X) (x : X) → Contains xs x → test x ≡ true → Contains (filter test xs) x
Contains-filter test [] x among passes = absurd (Contains-none x among)
Contains-filter test (y ∷ xs) x among passes =
    elim (cases_Bool (test y)) [
      | inl kept ↦ subst (λ b. Contains (cond b (y ∷ filter test xs) (filter test xs)) x) (sym kept)
          (elim (Contains-cons y x xs among) [
            | inl same ↦ subst (λ z. Contains (y ∷ filter test xs) z) same (Contains-here y (filter test xs))
            | inr later ↦ Contains-there y x (filter test xs) (Contains-filter test xs x later passes)
          ])
      | inr gone ↦ subst (λ b. Contains (cond b (y ∷ filter test xs) (filter test xs)) x) (sym gone)
          (elim (Contains-cons y x xs among) [
            | inl same ↦ absurd (false≢true (sym gone ∙ ap test same ∙ passes))
            | inr later ↦ Contains-filter test xs x later passes
          ])
    ]

pub Contains-from_filter : {X : Type 0} (test : X → Bool) (xs : List X) (x : X) → Contains (filter test xs) x → Contains xs x × (test x ≡ true)
Contains-from_filter test [] x among = absurd (Contains-none x among)
Contains-from_filter test (y ∷ xs) x among =
    elim (cases_Bool (test y)) [
      | inl kept ↦
          elim (Contains-cons y x (filter test xs) (subst (λ b. Contains (cond b (y ∷ filter test xs) (filter test xs)) x) kept among)) [
            | inl same ↦ (subst (λ z. Contains (y ∷ xs) z) same (Contains-here y xs), sym (ap test same) ∙ kept)
            | inr later ↦ let found = Contains-from_filter test xs x later in (Contains-there y x xs found.0, found.1)
          ]
      | inr gone ↦
          let found = Contains-from_filter test xs x (subst (λ b. Contains (cond b (y ∷ filter test xs) (filter test xs)) x) gone among) in
          (Contains-there y x xs found.0, found.1)
    ]

pub passes_from_any : {X : Type 0} (test : X → Bool) (xs : List X) → list_any test xs ≡ true → (x : X) × Contains xs x × (test x ≡ true)
passes_from_any test [] some = absurd (false≢true some)
passes_from_any test (x ∷ xs) some =
    elim (or_cases (test x) (list_any test xs) some) [
      | inl here ↦ (x, Contains-here x xs, here)
      | inr later ↦ let found = passes_from_any test xs later in (found.0, Contains-there x found.0 xs found.1, found.2)
    ]

pub fails_from_none : {X : Type 0} (test : X → Bool) (xs : List X) → list_any test xs ≡ false → (x : X) → Contains xs x → test x ≡ false
fails_from_none test [] none x among = absurd (Contains-none x among)
fails_from_none test (y ∷ xs) none x among =
    let parts = or_parts (test y) (list_any test xs) none in
    elim (Contains-cons y x xs among) [ inl same ↦ sym (ap test same) ∙ parts.0 | inr later ↦ fails_from_none test xs parts.1 x later ]
