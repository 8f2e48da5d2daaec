-- How often an item stands in a list, and lists where none stands twice.
use Rattle.std.proofs.Common.{◌≡◌, ℕ, zero, suc, ◌+◌, ◌≤◌, ◌⊎◌, Bool, true, false, cond, List, [], ◌∷◌, ◌++◌, Contains, count_by, slice_get, Some, inl, inr, sym, ◌∙◌, refl, ap, subst, arith, Decides}
use Rattle.std.proofs.lemmas.Bool.{false≢true}
use Rattle.std.proofs.lemmas.List.Sums.{sum_by-append, sum_by-cons}
use Rattle.std.proofs.lemmas.Option.{none-some, same_Some}
use Rattle.list_facts.specs.Laws.Members.{Contains-cons, Contains-here, Contains-none, Contains-there}

module _ {X : Type 0} (E : X → X → Bool) (same : (a b : X) → Decides (E a b) (a ≡ b)) where
  abbrev pub counted : X → List X → ℕ
  counted x xs = count_by (E x) xs

  -- no item stands twice
  abbrev pub Once : List X → Type 0
  Once xs = (x : X) → counted x xs ≤ 1

  pub counted-cons : (x y : X) (ys : List X) → counted x (y ∷ ys) ≡ cond (E x y) 1 0 + counted x ys
  counted-cons x y ys = sum_by-cons (λ z. cond (E x z) 1 0) y ys

  pub counted-append : (x : X) (xs ys : List X) → counted x (xs ++ ys) ≡ counted x xs + counted x ys
  counted-append x xs ys = sum_by-append (λ z. cond (E x z) 1 0) xs ys

  pub counted-here : (x : X) (ys : List X) → counted x (x ∷ ys) ≡ 1 + counted x ys
  counted-here x ys = counted-cons x x ys ∙ ap (λ b. cond b 1 0 + counted x ys) ((same x x).1 refl)

  pub cond_of : (x y : X) → ((x ≡ y) × (◌≡◌ {A = ℕ} (cond (E x y) 1 0) 1)) ⊎ ((x ≡ y → ⊥) × (◌≡◌ {A = ℕ} (cond (E x y) 1 0) 0))
  cond_of x y =
      elim (E x y) as (λ b. E x y ≡ b → ((x ≡ y) × (◌≡◌ {A = ℕ} (cond b 1 0) 1)) ⊎ ((x ≡ y → ⊥) × (◌≡◌ {A = ℕ} (cond b 1 0) 0))) [
        | true ↦ λ is. inl ((same x y).0 is, refl)
        | false ↦ λ is. inr (λ e. false≢true (sym is ∙ (same x y).1 e), refl)
      ] refl

  pub counted_some : (x : X) (xs : List X) → Contains xs x → 1 ≤ counted x xs
  counted_some x [] h = absurd (Contains-none x h)
  counted_some x (y ∷ ys) h =
      elim (Contains-cons y x ys h) [
        | inl here ↦ subst (λ z. 1 ≤ counted x (z ∷ ys)) (sym here) (omega (arith, counted-here x ys))
        | inr there ↦ omega (arith, counted-cons x y ys, counted_some x ys there)
      ]

  pub counted_none : (x : X) (xs : List X) → (Contains xs x → ⊥) → counted x xs ≡ 0
  counted_none x [] none = refl
  counted_none x (y ∷ ys) none =
      elim (cond_of x y) [
        | inl is ↦ absurd (none (subst (λ z. Contains (y ∷ ys) z) (sym is.0) (Contains-here y ys)))
        | inr is ↦ omega (arith, counted-cons x y ys, is.1, counted_none x ys (λ h. none (Contains-there y x ys h)))
      ]

  pub contained_counted : (x : X) (xs : List X) → 1 ≤ counted x xs → Contains xs x
  contained_counted x [] some = absurd (omega arith)
  contained_counted x (y ∷ ys) some =
      elim (cond_of x y) [
        | inl is ↦ subst (λ z. Contains (y ∷ ys) z) (sym is.0) (Contains-here y ys)
        | inr is ↦ Contains-there y x ys (contained_counted x ys (omega (arith, counted-cons x y ys, is.1, some)))
      ]

  pub once_push : (xs : List X) (y : X) → Once xs → (Contains xs y → ⊥) → Once (xs ++ y ∷ [])
  once_push xs y once new x =
      elim (cond_of x y) [
        | inl is ↦ omega (arith, counted-append x xs (y ∷ []), counted-cons x y [], is.1, counted_none x xs (λ h. new (subst (Contains xs) is.0 h)))
        | inr is ↦ omega (arith, counted-append x xs (y ∷ []), counted-cons x y [], is.1, once x)
      ]

  pub once_left : (xs ys : List X) → Once (xs ++ ys) → Once xs
  once_left xs ys once x = omega (arith, counted-append x xs ys, once x)

  pub once_right : (xs ys : List X) → Once (xs ++ ys) → Once ys
  once_right xs ys once x = omega (arith, counted-append x xs ys, once x)

  pub once_turned : (xs ys : List X) → Once (xs ++ ys) → Once (ys ++ xs)
  once_turned xs ys once x = omega (arith, counted-append x xs ys, counted-append x ys xs, once x)

  pub once_tail : (y : X) (ys : List X) → Once (y ∷ ys) → Once ys
  once_tail y ys once x = omega (arith, counted-cons x y ys, once x)

  pub once_apart : (y : X) (ys : List X) → Once (y ∷ ys) → Contains ys y → ⊥
  once_apart y ys once h = absurd (omega (arith, counted-here y ys, once y, counted_some y ys h))

  -- what comes again stands twice
  pub twice : (earlier : List X) (y : X) (later : List X) → Contains earlier y → Once (earlier ++ y ∷ later) → ⊥
  twice earlier y later again once =
      absurd (omega (arith, counted-append y earlier (y ∷ later), counted-here y later, counted_some y earlier again, once y))

  contained_at : (xs : List X) (i : ℕ) (x : X) → slice_get xs i ≡ Some x → Contains xs x
  contained_at [] i x is = absurd (none-some x is)
  contained_at (y ∷ ys) zero x is = subst (Contains (y ∷ ys)) (same_Some y x is) (Contains-here y ys)
  contained_at (y ∷ ys) (suc i) x is = Contains-there y x ys (contained_at ys i x is)

  -- an item stands at one place
  pub once_place : (xs : List X) (i j : ℕ) (x : X) → Once xs → slice_get xs i ≡ Some x → slice_get xs j ≡ Some x → i ≡ j
  once_place [] i j x once is_i is_j = absurd (none-some x is_i)
  once_place (y ∷ ys) zero zero x once is_i is_j = refl
  once_place (y ∷ ys) zero (suc j) x once is_i is_j =
      absurd (once_apart y ys once (subst (Contains ys) (sym (same_Some y x is_i)) (contained_at ys j x is_j)))
  once_place (y ∷ ys) (suc i) zero x once is_i is_j =
      absurd (once_apart y ys once (subst (Contains ys) (sym (same_Some y x is_j)) (contained_at ys i x is_i)))
  once_place (y ∷ ys) (suc i) (suc j) x once is_i is_j =
      ap suc (once_place ys i j x (once_tail y ys once) is_i is_j)
