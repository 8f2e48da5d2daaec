-- Some element of a list, and what a filter keeps of it.
use Rattle.std.proofs.Common.{◌≡◌, ℕ, zero, suc, ◌<◌, Bool, true, cond, List, [], ◌∷◌, length, get_or, filter, All, Any, ◌⊎◌, inl, inr, sym, subst, refl, arith}
use Rattle.std.proofs.lemmas.Bool.{cases_Bool}

module _ {X : Type 0} (P : X → Type 0) where
  pub Any-here : (x : X) (xs : List X) → P x → Any P (x ∷ xs)
  Any-here x xs h = (0, x, omega arith, refl, h)

  pub Any-there : (x : X) (xs : List X) → Any P xs → Any P (x ∷ xs)
  Any-there x xs h = (suc h.0, h.1, omega (arith, h.2), h.3, h.4)

  pub Any-cons_cases : (x : X) (xs : List X) → Any P (x ∷ xs) → P x ⊎ Any P xs
  Any-cons_cases x xs h = cases h.0 h.1 h.2 h.3 h.4 where
    cases : (k : ℕ) (y : X) → k < length (x ∷ xs) → get_or (x ∷ xs) k y ≡ y → P y → P x ⊎ Any P xs
    cases zero y lt e p = inl (subst P (sym e) p)
    cases (suc k) y lt e p = inr (k, y, omega arith, e, p)

  pub Any-nil : Any P [] → ⊥
  Any-nil h = absurd (omega (arith, h.2))

module _ {X : Type 0} (P : X → Type 0) (R : X → Type 0) where
  -- what holds of each element holds of the one
  pub Any-with_all : (xs : List X) → All R xs → Any P xs → Any (λ x. P x × R x) xs
  Any-with_all xs each h = (h.0, h.1, h.2, h.3, (h.4, subst R h.3 (each h.0 h.1 h.2)))

  pub Any-weaker : ((x : X) → P x → R x) → (xs : List X) → Any P xs → Any R xs
  Any-weaker f xs h = (h.0, h.1, h.2, h.3, f h.1 h.4)

module _ {X : Type 0} (P : X → Type 0) (test : X → Bool) where
  pub Any-from_filter : (xs : List X) → Any P (filter test xs) → Any (λ x. P x × (test x ≡ true)) xs
  Any-from_filter [] h = absurd (Any-nil P h)
  Any-from_filter (x ∷ xs) h =
      elim (cases_Bool (test x)) [
        | inl passes ↦
            let kept : Any P (x ∷ filter test xs) = subst (λ b. Any P (cond b (x ∷ filter test xs) (filter test xs))) passes h in
            elim (Any-cons_cases P x (filter test xs) kept) [
              | inl here ↦ Any-here (λ y. P y × (test y ≡ true)) x xs (here, passes)
              | inr there ↦ Any-there (λ y. P y × (test y ≡ true)) x xs (Any-from_filter xs there)
            ]
        | inr fails ↦
            let left : Any P (filter test xs) = subst (λ b. Any P (cond b (x ∷ filter test xs) (filter test xs))) fails h in
            Any-there (λ y. P y × (test y ≡ true)) x xs (Any-from_filter xs left)
      ]

  pub Any-to_filter : (xs : List X) → Any (λ x. P x × (test x ≡ true)) xs → Any P (filter test xs)
  Any-to_filter [] h = absurd (Any-nil (λ x. P x × (test x ≡ true)) h)
  Any-to_filter (x ∷ xs) h =
      elim (Any-cons_cases (λ y. P y × (test y ≡ true)) x xs h) [
        | inl here ↦ subst (λ b. Any P (cond b (x ∷ filter test xs) (filter test xs))) (sym here.1) (Any-here P x (filter test xs) here.0)
        | inr there ↦
            let rest : Any P (filter test xs) = Any-to_filter xs there in
            elim (cases_Bool (test x)) [
              | inl passes ↦ subst (λ b. Any P (cond b (x ∷ filter test xs) (filter test xs))) (sym passes) (Any-there P x (filter test xs) rest)
              | inr fails ↦ subst (λ b. Any P (cond b (x ∷ filter test xs) (filter test xs))) (sym fails) rest
            ]
      ]
