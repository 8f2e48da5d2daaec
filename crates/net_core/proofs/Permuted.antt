-- Items at places that are all places of a list, each once, are the list in another order.
use Rattle.std.proofs.Common.{◌≡◌, ℕ, zero, suc, ◌<◌, ◌≤◌, List, [], ◌∷◌, ◌++◌, get_or, length, map, take, All, Contains, inl, inr, sym, ◌∙◌, refl, ap, subst, arith, nat_eq, cond, count_by, add-one}
use Rattle.std.specs.List.{remove}
use Rattle.std.specs.List.Sorted.{IsPermutation}
use Rattle.std.proofs.lemmas.Bool.{cases_lt}
use Rattle.std.proofs.lemmas.Bool.Decides.{Decides-eqb}
use Rattle.std.proofs.lemmas.List.{map_push, take_all, take_more}
use Rattle.std.proofs.lemmas.List.Elements.{All-contains}
use Rattle.std.proofs.lemmas.List.Sorted.{IsPermutation-cons, IsPermutation-map, IsPermutation-refl, IsPermutation-remove, IsPermutation-sym, IsPermutation-trans, sum_by-IsPermutation}
use Rattle.std.proofs.lemmas.Option.{get_or_from_slice_get, none-some}
use Rattle.net_core.specs.Order.{AreAt}
use Rattle.net_core.specs.Inner.Walk.{StandOnce}
use Rattle.net_core.specs.Laws.Counted.{cond_of, contained_counted, counted-append, counted-cons, counted-here, counted_none, counted_some}

-- lists with the same numbers as often
permutation_from_counts : (xs ys : List ℕ) → ((g : ℕ) → count_by (nat_eq g) xs ≡ count_by (nat_eq g) ys) → IsPermutation xs ys
permutation_from_counts [] [] same = IsPermutation-refl []
permutation_from_counts [] (y ∷ ys) same = absurd (omega (arith, same y, counted-here nat_eq Decides-eqb y ys))
permutation_from_counts (x ∷ xs) ys same =
    let there = contained_counted nat_eq Decides-eqb x ys (omega (arith, same x, counted-here nat_eq Decides-eqb x xs)) in
    let rest = remove ys there.0 in
    let moved : IsPermutation ys (x ∷ rest) = IsPermutation-remove ys there.0 x there.1 (sym there.2) in
    let fewer : IsPermutation xs rest =
    permutation_from_counts xs rest (λ g. omega (
      arith,
      same g,
      counted-cons nat_eq Decides-eqb g x xs,
      counted-cons nat_eq Decides-eqb g x rest,
      sum_by-IsPermutation (λ y. cond (nat_eq g y) 1 0) ys (x ∷ rest) moved,
    )) in
    IsPermutation-trans (x ∷ xs) (x ∷ rest) ys (IsPermutation-cons x xs rest fewer) (IsPermutation-sym ys (x ∷ rest) moved)

-- the numbers below n
abbrev below_of : ℕ → List ℕ
below_of zero = []
below_of (suc n) = below_of n ++ n ∷ []

counted_below : (n g : ℕ) → (g < n → count_by (nat_eq g) (below_of n) ≡ 1) × (n ≤ g → count_by (nat_eq g) (below_of n) ≡ 0)
counted_below zero g = (λ lt. absurd (omega arith), λ le. refl)
counted_below (suc n) g =
    let more = counted-append nat_eq Decides-eqb g (below_of n) (n ∷ []) in
    let one = counted-cons nat_eq Decides-eqb g n [] in
    let before = counted_below n g in
    elim (cond_of nat_eq Decides-eqb g n) [
      | inl is ↦ (λ lt. omega (arith, more, one, is.0, is.1, before.1 (omega (arith, is.0))), λ le. absurd (omega (arith, is.0)))
      | inr other ↦ (λ lt. omega (arith, more, one, other.1, before.0 (omega (arith, other.0))), λ le. omega (arith, more, one, other.1, before.1 (omega arith)))
    ]

map_below : {X : Type 0} (xs : List X) (d : X) (n : ℕ) → n ≤ length xs → map (λ p. get_or xs p d) (below_of n) ≡ take n xs
map_below xs d zero le = refl
map_below xs d (suc n) le =
    map_push (λ p. get_or xs p d) (below_of n) n
    ∙ (ap (λ ys. ys ++ get_or xs n d ∷ []) (map_below xs d n (omega arith)) ∙ (sym (take_more xs n d (omega arith)) ∙ ap (λ m. take m xs) (add-one n)))

map_places : {X : Type 0} (xs : List X) (d : X) (places : List ℕ) (items : List X) → AreAt xs places items → map (λ p. get_or xs p d) places ≡ items
map_places xs d [] [] at = refl
map_places xs d [] (y ∷ ys) at = absurd at
map_places xs d (p ∷ ps) [] at = absurd at
map_places xs d (p ∷ ps) (y ∷ ys) (here, at) =
    ap (λ z. z ∷ map (λ q. get_or xs q d) ps) (get_or_from_slice_get xs p y d here) ∙ ap (λ zs. y ∷ zs) (map_places xs d ps ys at)

none_at : {X : Type 0} (places : List ℕ) (items : List X) → AreAt [] places items → items ≡ []
none_at [] [] at = refl
none_at [] (y ∷ ys) at = absurd at
none_at (p ∷ ps) [] at = absurd at
none_at (p ∷ ps) (y ∷ ys) (here, at) = absurd (none-some y here)

pub permuted : {X : Type 0} (xs : List X) (places : List ℕ) (items : List X) → AreAt xs places items → All (λ p. p < length xs) places → ((p : ℕ) → p < length xs → Contains places p) → StandOnce places → IsPermutation xs items
permuted [] places items at within whole once = subst (IsPermutation []) (sym (none_at places items at)) (IsPermutation-refl [])
permuted (x ∷ xs) places items at within whole once =
    let all = x ∷ xs in
    let n = length all in
    let f = λ (p : ℕ). get_or all p x in
    let numbers : IsPermutation (below_of n) places =
    permutation_from_counts (below_of n) places (λ g.
    elim (cases_lt g n) [
      | inl lt ↦ omega (arith, (counted_below n g).0 lt, once g, counted_some nat_eq Decides-eqb g places (whole g lt))
      | inr le ↦ (counted_below n g).1 le ∙ sym (counted_none nat_eq Decides-eqb g places (λ among. absurd (omega (arith, le, All-contains (λ p. p < n) places g within among))))
    ]) in
    subst (λ ys. IsPermutation ys items) (map_below all x n (omega arith) ∙ take_all n all (omega arith))
    (subst (IsPermutation (map f (below_of n))) (map_places all x places items at) (IsPermutation-map f (below_of n) places numbers))
