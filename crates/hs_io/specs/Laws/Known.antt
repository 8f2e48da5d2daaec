-- Names that were seen: looking for one among the keys of a set, and putting it last.
use Rattle.std.proofs.Common.{◌≡◌, ℕ, true, false, cond, nat_eq, List, [], ◌∷◌, ◌++◌, map, length, get_or, slice_get, option_map, position, Option, Some, None, IfSome, IfNone, is_some, Contains, inl, inr, ap, sym, ◌∙◌, subst, refl}
use Rattle.std.proofs.lemmas.Bool.{false_from_ne_true, false≢true}
use Rattle.std.proofs.lemmas.Cmp.{nat_list_eq_equiv}
use Rattle.std.proofs.lemmas.List.{map-append}
use Rattle.std.proofs.lemmas.List.Folds.{Any-from_list_any, list_any-from_Any}
use Rattle.std.proofs.lemmas.List.Quantifiers.{position-Some}
use Rattle.std.proofs.lemmas.Option.{slice_get_within, slice_get-map, slice_get-get_or, slice_get_cases, get_or_from_slice_get, same_Some, none-some}
use Rattle.std.specs.Cmp.Lexicographic.{pointwise, same_text}
use Rattle.std.specs.List.{list_any}

-- the last of a list
pub last_at : (names : List (List ℕ)) (name : List ℕ) → slice_get (names ++ name ∷ []) (length names) ≡ Some name
last_at [] name = refl
last_at (x ∷ xs) name = last_at xs name

module _ {V : Type 0} (items : V → List ℕ) (name : List ℕ) where
  -- the place that a search finds has the name
  pub found_at : (keys : List V) (place : ℕ) → position (λ v. pointwise nat_eq name (items v)) keys ≡ Some place → slice_get (map items keys) place ≡ Some name
  found_at [] place e = absurd (none-some place e)
  found_at (v ∷ vs) place e =
      let found = position-Some (λ w. pointwise nat_eq name (items w)) (v ∷ vs) place v e in
      let same : name ≡ items (get_or (v ∷ vs) place v) = same_text name (items (get_or (v ∷ vs) place v)) (sym found.1) in
      slice_get-map items (v ∷ vs) place ∙ ap (λ o. option_map items o) (slice_get-get_or (v ∷ vs) place v found.0) ∙ ap Some (sym same)

  -- a name that is there is found
  pub found_from_contained : (keys : List V) → Contains (map items keys) name → list_any (λ v. pointwise nat_eq name (items v)) keys ≡ true
  found_from_contained keys h =
      let here : slice_get (map items keys) h.0 ≡ Some name = slice_get-get_or (map items keys) h.0 name h.1 ∙ ap Some h.2 in
      let mapped : option_map items (slice_get keys h.0) ≡ Some name = sym (slice_get-map items keys h.0) ∙ here in
      elim (slice_get_cases keys h.0).1 [
        | inl inside ↦
            let same : items inside.0 ≡ name = same_Some (items inside.0) name (sym (ap (λ o. option_map items o) inside.2) ∙ mapped) in
            list_any-from_Any (λ v. pointwise nat_eq name (items v)) keys
            (h.0, inside.0, inside.1, inside.3, subst (λ n. pointwise nat_eq name n ≡ true) (sym same) (nat_list_eq_equiv.refl name))
        | inr past ↦ absurd (none-some name (sym (ap (λ o. option_map items o) past.1) ∙ mapped))
      ]

  -- a name that is found is there
  pub contained_from_found : (keys : List V) → list_any (λ v. pointwise nat_eq name (items v)) keys ≡ true → Contains (map items keys) name
  contained_from_found keys h =
      let found = Any-from_list_any (λ v. pointwise nat_eq name (items v)) keys h in
      let same : name ≡ items found.1 = same_text name (items found.1) (sym found.4) in
      let here : slice_get (map items keys) found.0 ≡ Some name =
      slice_get-map items keys found.0
      ∙ ap (λ o. option_map items o) (slice_get-get_or keys found.0 found.1 found.2 ∙ ap Some found.3)
      ∙ ap Some (sym same) in
      (found.0, slice_get_within (map items keys) found.0 name here, get_or_from_slice_get (map items keys) found.0 name name here)

  -- the keys after a new name
  pub names_with : (keys : List V) (v : V) → items v ≡ name → (Contains (map items keys) name → ⊥)
      → map items (cond (list_any (λ w. pointwise nat_eq (items v) (items w)) keys) keys (keys ++ v ∷ [])) ≡ map items keys ++ name ∷ []
  names_with keys v same new =
      let absent : list_any (λ w. pointwise nat_eq name (items w)) keys ≡ false =
      false_from_ne_true _ (λ found. new (contained_from_found keys found)) in
      let absent' : list_any (λ w. pointwise nat_eq (items v) (items w)) keys ≡ false =
      subst (λ n. list_any (λ w. pointwise nat_eq n (items w)) keys ≡ false) (sym same) absent in
      ap (λ b. map items (cond b keys (keys ++ v ∷ []))) absent' ∙ map-append items keys (v ∷ []) ∙ ap (λ n. map items keys ++ n ∷ []) same

  -- what a search for the place gives
  pub number_some : (keys : List V) (number : Option ℕ) → number ≡ position (λ v. pointwise nat_eq name (items v)) keys → IfSome number (λ n. slice_get (map items keys) n ≡ Some name)
  number_some keys None is = tt
  number_some keys (Some n) is = found_at keys n (sym is)

  pub number_none : (keys : List V) (number : Option ℕ) → is_some number ≡ list_any (λ v. pointwise nat_eq name (items v)) keys → IfNone number (Contains (map items keys) name → ⊥)
  number_none keys None found = λ h. false≢true (found ∙ found_from_contained keys h)
  number_none keys (Some n) found = tt
