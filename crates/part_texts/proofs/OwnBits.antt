-- The bits that a part owns, one after the other.
use Rattle.std.proofs.Common.{◌≡◌, ℕ, ◌+◌, ◌==◌, Bool, cond, List, [], ◌∷◌, ◌++◌, filter, get_or, sym, ap, ◌∙◌, arith}
use Rattle.std.proofs.lemmas.Bool.{eq-eqb, ne_eqb}
use Rattle.std.proofs.lemmas.List.{append-nil, map-id}
use Rattle.std.proofs.lemmas.List.FromFn.{filter_of_map_range_with_len_more}
use Rattle.std.specs.List.{range_with_len}

-- those below a number
abbrev pub own_below : List ℕ → ℕ → ℕ → List ℕ
own_below owners part count = filter (λ c. get_or owners c 0 == part) (range_with_len 0 count)

module _ (owners : List ℕ) (part count : ℕ) where
  abbrev is_own : ℕ → Bool
  is_own c = get_or owners c 0 == part

  more : own_below owners part (count + 1) ≡ own_below owners part count ++ cond (is_own count) (count ∷ []) []
  more =
      ap (filter is_own) (sym (map-id (range_with_len 0 (count + 1))))
      ∙ filter_of_map_range_with_len_more is_own (λ c. c) 0 count count (omega arith)
      ∙ ap (λ (list : List ℕ). filter is_own list ++ cond (is_own count) (count ∷ []) []) (map-id (range_with_len 0 count))

  pub own_added : get_or owners count 0 ≡ part → own_below owners part count ++ count ∷ [] ≡ own_below owners part (count + 1)
  own_added is = sym (more ∙ ap (λ (test : Bool). own_below owners part count ++ cond test (count ∷ []) []) (eq-eqb (get_or owners count 0) part is))

  pub other_left_out : (get_or owners count 0 ≡ part → ⊥) → own_below owners part count ≡ own_below owners part (count + 1)
  other_left_out apart =
      sym (more ∙ ap (λ (test : Bool). own_below owners part count ++ cond test (count ∷ []) []) (ne_eqb (get_or owners count 0) part apart) ∙ append-nil (own_below owners part count))
