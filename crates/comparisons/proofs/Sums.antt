-- Sums over the items of a list, as far as a loop has come.
use Rattle.std.proofs.Common.{◌≡◌, ℕ, ◌+◌, ◌<◌, ◌≤◌, List, ◌∷◌, length, map, take, get_or, sum, ap, ◌∙◌, arith}
use Rattle.std.proofs.lemmas.List.{take_all}
use Rattle.std.proofs.lemmas.List.Sums.{sum-map, sum_by-cons, sum_by_more}

-- one item more
pub sum_more : {X : Type 0} (f : X → ℕ) (xs : List X) (i : ℕ) (x : X) (count more new : ℕ) → i < length xs → get_or xs i x ≡ x → count ≡ sum (map f (take i xs)) → more ≡ f x → new ≡ count + more → new ≡ sum (map f (take (i + 1) xs))
sum_more {X} f xs i x count more new within is before here added =
    omega (arith, added, before, here, ap f is, sum_by_more f xs i x within, sum-map f (take i xs), sum-map f (take (i + 1) xs))

-- no item more
pub sum_all : {X : Type 0} (f : X → ℕ) (xs : List X) (i count : ℕ) → length xs ≤ i → count ≡ sum (map f (take i xs)) → count ≡ sum (map f xs)
sum_all {X} f xs i count done before = before ∙ ap (λ (ys : List X). sum (map f ys)) (take_all i xs done)

-- the first item and the others
pub sum_of-cons : {X : Type 0} (f : X → ℕ) (x : X) (xs : List X) → sum (map f (x ∷ xs)) ≡ f x + sum (map f xs)
sum_of-cons f x xs = sum_by-cons (λ (n : ℕ). n) (f x) (map f xs)
