use Rattle.std.proofs.Common.{◌≡◌, ℕ, ◌+◌, ◌<◌, ◌≤◌, ◌∙◌, Bool, true, false, List, [], ◌∷◌, ◌++◌, length, take, get_or, cond, ap, sym, refl, inl, inr, ◌⊎◌, ⊎_elim, subst, arith}
use Rattle.std.specs.List.{filter, items_where_true}
use Rattle.std.specs.List.Retain.{IsFiltered, ReturnsInTurn}
use Rattle.std.proofs.lemmas.List.{append-nil, take_more}
use Rattle.std.proofs.lemmas.List.Elements.{filter_more, Contains-append_cases, Contains-append_left, Contains-append_right, Contains-push, Contains-push_cases, Contains-get_or}
use Rattle.list_facts.specs.Laws.Members.{Contains-cons, Contains-none}
use Rattle.cover_terms.specs.declared.term.Term.{Term}
use Rattle.cover_terms.specs.Term.{Holds, IsCovered}

-- the values that lists hold
pub held_at : (terms : List Term) (i : ℕ) (d : Term) (x : ℕ) → i < length terms → Holds (get_or terms i d) x → IsCovered terms x
held_at terms i d x h p = (get_or terms i d, Contains-get_or terms i d h, p)

pub held_left : (xs ys : List Term) (x : ℕ) → IsCovered xs x → IsCovered (xs ++ ys) x
held_left xs ys x h = (h.0, Contains-append_left xs ys h.0 h.1, h.2)

pub held_right : (xs ys : List Term) (x : ℕ) → IsCovered ys x → IsCovered (xs ++ ys) x
held_right xs ys x h = (h.0, Contains-append_right xs ys h.0 h.1, h.2)

pub held_cases : (xs ys : List Term) (x : ℕ) → IsCovered (xs ++ ys) x → IsCovered xs x ⊎ IsCovered ys x
held_cases xs ys x h = ⊎_elim (λ k. inl (h.0, k, h.2)) (λ k. inr (h.0, k, h.2)) (Contains-append_cases xs ys h.0 h.1)

pub held_push : (xs : List Term) (t : Term) (x : ℕ) → Holds t x → IsCovered (xs ++ t ∷ []) x
held_push xs t x p = (t, Contains-push xs t, p)

pub held_push_cases : (xs : List Term) (t : Term) (x : ℕ) → IsCovered (xs ++ t ∷ []) x → IsCovered xs x ⊎ Holds t x
held_push_cases xs t x h =
    ⊎_elim (λ k. inl (h.0, k, h.2)) (λ e. inr (subst (λ (u : Term). Holds u x) (sym e) h.2)) (Contains-push_cases xs t h.0 h.1)

pub held_cons_cases : (t : Term) (xs : List Term) (x : ℕ) → IsCovered (t ∷ xs) x → Holds t x ⊎ IsCovered xs x
held_cons_cases t xs x h =
    ⊎_elim (λ e. inl (subst (λ (u : Term). Holds u x) (sym e) h.2)) (λ k. inr (h.0, k, h.2)) (Contains-cons t h.0 xs h.1)

pub held_none : (x : ℕ) → IsCovered [] x → ⊥
held_none x h = Contains-none h.0 h.1

-- the first elements, of which x is the last
pub take_with_last : {X : Type 0} (xs : List X) (n m : ℕ) (x : X) → m + 1 ≡ n → n ≤ length xs → x ≡ get_or xs m x → take n xs ≡ take m xs ++ x ∷ []
take_with_last {X} xs n m x next within is =
    ap (λ k. take k xs) (sym next) ∙ (take_more xs m x (omega arith) ∙ ap (λ (y : X). take m xs ++ y ∷ []) (sym is))

-- what passes among the first elements, with one element more that passes
pub filter_pushed : {X : Type 0} (p : X → Bool) (xs : List X) (i : ℕ) (x : X) → i < length xs → x ≡ get_or xs i x → p x ≡ true → filter p (take (i + 1) xs) ≡ filter p (take i xs) ++ x ∷ []
filter_pushed {X} p xs i x below is passes =
    filter_more p xs i x below
    ∙ ap (λ (ys : List X). filter p (take i xs) ++ ys) (subst (λ (y : X). cond (p y) (y ∷ []) [] ≡ x ∷ []) is (ap (λ b. cond b (x ∷ []) []) passes))

-- and with one that fails
pub filter_passed : {X : Type 0} (p : X → Bool) (xs : List X) (i : ℕ) (x : X) → i < length xs → x ≡ get_or xs i x → p x ≡ false → filter p (take (i + 1) xs) ≡ filter p (take i xs)
filter_passed {X} p xs i x below is fails =
    filter_more p xs i x below
    ∙ (ap (λ (ys : List X). filter p (take i xs) ++ ys) (subst (λ (y : X). cond (p y) (y ∷ []) [] ≡ []) is (ap (λ b. cond b (x ∷ []) []) fails))
    ∙ append-nil (filter p (take i xs)))

-- what `retain` keeps, where the closure stays as it is and computes a test
module _ {X F : Type 0} (R : F → X → Bool → F → Type 0) (test : X → Bool) (f : F) (steady : (x : X) (b : Bool) (g : F) → R f x b g → (b ≡ test x) × (g ≡ f)) where
  one_more : (b : Bool) (x : X) (bs : List Bool) (xs kept : List X) → b ≡ test x → items_where_true bs xs ≡ kept → items_where_true (b ∷ bs) (x ∷ xs) ≡ cond (test x) (x ∷ kept) kept
  one_more true x bs xs kept e rest = ap (λ l. x ∷ l) rest ∙ ap (λ a. cond a (x ∷ kept) kept) e
  one_more false x bs xs kept e rest = rest ∙ ap (λ a. cond a (x ∷ kept) kept) e

  in_turn : (bs : List Bool) (xs : List X) (q : F) → length bs ≡ length xs → ReturnsInTurn R f bs xs q → items_where_true bs xs ≡ filter test xs
  in_turn [] [] q e h = refl
  in_turn [] (x ∷ xs) q e h = absurd (omega arith)
  in_turn (b ∷ bs) [] q e h = absurd h
  in_turn (b ∷ bs) (x ∷ xs) q e h =
      let one = steady x b h.0 h.1 in
      one_more b x bs xs (filter test xs) one.0 (in_turn bs xs q (omega arith) (subst (λ (g : F). ReturnsInTurn R g bs xs q) one.1 h.2))

  pub filter_from_steady_retain : (xs ys : List X) → IsFiltered R f xs ys → ys ≡ filter test xs
  filter_from_steady_retain xs ys h = h.4 ∙ in_turn h.0 xs h.1 h.2 h.3
