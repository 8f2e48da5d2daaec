-- Names that stand in a list, and how often they do.
use Rattle.std.proofs.Common.{zero-add, ◌≡◌, ℕ, ◌+◌, ◌≤◌, inl, inr, Bool, true, cond, List, [], ◌∷◌, ◌++◌, map, Contains, count_by, sym, ◌∙◌, refl, ap, arith}
use Rattle.std.specs.Str.{bytes_eq}
use Rattle.std.proofs.lemmas.Slice.Eq.{bytes_eq-Decides}
use Rattle.std.proofs.lemmas.List.Sums.{sum_by-append}
use Rattle.list_facts.specs.Laws.Members.{Contains-cons, Contains-here, Contains-none, Contains-there}

-- how often a name stands in a list
abbrev pub times : List ℕ → List (List ℕ) → ℕ
times name names = count_by (bytes_eq name) names

pub same_name : (a b : List ℕ) → bytes_eq a b ≡ true → a ≡ b
same_name a b = (bytes_eq-Decides a b).0

pub is_same_name : (a b : List ℕ) → a ≡ b → bytes_eq a b ≡ true
is_same_name a b = (bytes_eq-Decides a b).1

pub times-append : (name : List ℕ) (xs ys : List (List ℕ)) → times name (xs ++ ys) ≡ times name xs + times name ys
times-append name xs ys = sum_by-append (λ x. cond (bytes_eq name x) 1 0) xs ys

pub times-cons : (name x : List ℕ) (xs : List (List ℕ)) → times name (x ∷ xs) ≡ cond (bytes_eq name x) 1 0 + times name xs
times-cons name x xs = times-append name (x ∷ []) xs ∙ ap (λ n. n + times name xs) (zero-add (cond (bytes_eq name x) 1 0))

-- a name of the list stands in it at least once
pub times-some : (name : List ℕ) (names : List (List ℕ)) → Contains names name → 1 ≤ times name names
times-some name [] h = absurd (Contains-none name h)
times-some name (x ∷ xs) h =
    elim (Contains-cons x name xs h) [
      | inl here ↦ rw (times-cons name x xs, is_same_name name x (sym here)) (omega arith)
      | inr there ↦ omega (arith, times-cons name x xs, times-some name xs there)
    ]

-- two functions agree on the names
abbrev pub Agree : (List ℕ → Bool) → (List ℕ → Bool) → List (List ℕ) → Type 0
Agree f g names = (name : List ℕ) → Contains names name → f name ≡ g name

pub map_same : (f g : List ℕ → Bool) (names : List (List ℕ)) → Agree f g names → map f names ≡ map g names
map_same f g [] agree = refl
map_same f g (x ∷ xs) agree =
    ap (λ b. b ∷ map f xs) (agree x (Contains-here x xs)) ∙ ap (λ bs. g x ∷ bs) (map_same f g xs (λ name h. agree name (Contains-there x name xs h)))
