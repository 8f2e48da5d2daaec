-- The numbers of the other parts.
use Rattle.std.proofs.Common.{◌≡◌, ℕ, zero, suc, ◌+◌, ◌==◌, not, cond, List, [], ◌∷◌, ◌++◌, sym, ap, ◌∙◌, subst, arith, add-one}
use Rattle.std.proofs.lemmas.List.Elements.{filter-append}
use Rattle.std.specs.List.{filter, range_with_len}
use Rattle.state_codes.specs.Split.{others}

range_with_len-suc : (a n : ℕ) → range_with_len a (suc n) ≡ range_with_len a n ++ (a + n) ∷ []
range_with_len-suc a zero = ap (λ (x : ℕ). x ∷ []) (omega arith)
range_with_len-suc a (suc n) = ap (λ (rest : List ℕ). a ∷ rest) (range_with_len-suc (a + 1) n ∙ ap (λ (x : ℕ). range_with_len (a + 1) n ++ x ∷ []) (omega arith))

-- one part more
pub others-more : (count j : ℕ) → others (count + 1) j ≡ others count j ++ cond (not (count == j)) (count ∷ []) []
others-more count j =
    subst (λ (k : ℕ). others k j ≡ others count j ++ cond (not (count == j)) (count ∷ []) []) (sym (add-one count))
    (ap (filter (λ (part : ℕ). not (part == j))) (range_with_len-suc 0 count ∙ ap (λ (x : ℕ). range_with_len 0 count ++ x ∷ []) (omega arith))
    ∙ filter-append (λ (part : ℕ). not (part == j)) (range_with_len 0 count) (count ∷ []))
