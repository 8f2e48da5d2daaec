-- One step of a loop over a range that adds an item at the end of a list.
use Rattle.std.proofs.Common.{◌≡◌, ℕ, ◌+◌, List, [], ◌∷◌, ◌++◌, map, sym, ap, ◌∙◌, arith, append_assoc}
use Rattle.std.specs.List.{range_with_len}
use Rattle.std.proofs.lemmas.List.FromFn.{map-range_with_len_more}

-- one item more
pub map-range-push : {X : Type 0} (f : ℕ → X) (start list new : List X) (i : ℕ) (x : X) → list ≡ start ++ map f (range_with_len 0 i) → new ≡ list ++ x ∷ [] → x ≡ f i → new ≡ start ++ map f (range_with_len 0 (i + 1))
map-range-push {X} f start list new i x before pushed e =
    pushed
    ∙ ap (λ (xs : List X). xs ++ x ∷ []) before
    ∙ append_assoc start (map f (range_with_len 0 i)) (x ∷ [])
    ∙ ap (λ (y : X). start ++ (map f (range_with_len 0 i) ++ y ∷ [])) e
    ∙ ap (λ (xs : List X). start ++ xs) (sym (map-range_with_len_more f 0 i i (omega arith)))
