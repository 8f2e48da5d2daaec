-- One more row is numbered at the end of its state's list.
use Rattle.std.proofs.Common.{◌≡◌, ◌≢◌, ℕ, zero, suc, ◌+◌, ◌<◌, List, [], ◌∷◌, ◌++◌, length, get_or, set, Some, Contains, AllPairs, slice_get, inl, inr, sym, ◌∙◌, subst, refl, arith, ap, length-append, length-set}
use Rattle.std.proofs.lemmas.Bool.{cases_lt, cases_eq}
use Rattle.std.proofs.lemmas.List.{get_or-set_same, get_or-set_other, get_or_append_left}
use Rattle.std.proofs.Math.Seq.{get_or-append_seam}
use Rattle.std.proofs.lemmas.List.Elements.{Contains-append_left, Contains-append_right, Contains-append_cases, Contains-get_or}
use Rattle.kiss_file.specs.declared.file.KissRow.{KissRow}
use Rattle.state_rows.specs.Places.{ArePlaces, places_of}

-- a number at the end of ascending numbers that are all below it
ascending_more : (numbers : List ℕ) (n : ℕ) → AllPairs (λ i j. i < j) numbers → ((i : ℕ) → Contains numbers i → i < n)
    → AllPairs (λ i j. i < j) (numbers ++ n ∷ [])
ascending_more numbers n pairs below i j d before within =
    elim (cases_lt j (length numbers)) [
      | inl inside ↦
          rw (get_or_append_left numbers (n ∷ []) d i (omega arith)) (rw (get_or_append_left numbers (n ∷ []) d j inside) (pairs i j d before inside))
      | inr last ↦
          let at_end : j ≡ length numbers = omega (arith, length-append numbers (n ∷ [])) in
          let inside : i < length numbers = omega arith in
          rw (get_or_append_left numbers (n ∷ []) d i inside)
          (subst (λ k. get_or numbers i d < get_or (numbers ++ n ∷ []) k d) (sym at_end)
          (rw (get_or-append_seam numbers n [] d) (below (get_or numbers i d) (Contains-get_or numbers i d inside))))
    ]

contains_only : (n i : ℕ) → Contains (n ∷ []) i → i ≡ n
contains_only n i (zero, lt, e) = sym e
contains_only n i (suc k, lt, e) = absurd (omega arith)

contains_itself : (n : ℕ) → Contains (n ∷ []) n
contains_itself n = (0, omega arith, refl)

module _ (rows : List KissRow) (states n : ℕ) (places : List (List ℕ)) (row : KissRow)
    (old : ArePlaces rows states n places) (at_row : slice_get rows n ≡ Some row) (lawful : row.from < states) where
  own_below : (s i : ℕ) → Contains (places_of places s) i → i < n
  own_below s i among = (old.own s i among).1

  own_list : places_of (set places row.from (places_of places row.from ++ n ∷ [])) row.from ≡ places_of places row.from ++ n ∷ []
  own_list = get_or-set_same places row.from (places_of places row.from ++ n ∷ []) [] (omega (arith, old.size))

  other_list : (s : ℕ) → s ≢ row.from → places_of (set places row.from (places_of places row.from ++ n ∷ [])) s ≡ places_of places s
  other_list s other = get_or-set_other places row.from s (places_of places row.from ++ n ∷ []) [] other

  own_more : (s i : ℕ) → Contains (places_of places s) i → (found : KissRow) × (i < n + 1) × (slice_get rows i ≡ Some found) × (found.from ≡ s)
  own_more s i among = let found = old.own s i among in (found.0, omega (arith, found.1), found.2, found.3)

  own_of_new : (s i : ℕ) → Contains (places_of (set places row.from (places_of places row.from ++ n ∷ [])) s) i
      → (found : KissRow) × (i < n + 1) × (slice_get rows i ≡ Some found) × (found.from ≡ s)
  own_of_new s i among =
      elim (cases_eq s row.from) [
        | inl same ↦
            let here : Contains (places_of places row.from ++ n ∷ []) i = subst (λ numbers. Contains numbers i) (ap (places_of _) same ∙ own_list) among in
            elim (Contains-append_cases (places_of places row.from) (n ∷ []) i here) [
              | inl before ↦ own_more s i (subst (λ t. Contains (places_of places t) i) (sym same) before)
              | inr last ↦
                  let it : i ≡ n = contains_only n i last in
                  (row, omega arith, ap (slice_get rows) it ∙ at_row, sym same)
            ]
        | inr other ↦ own_more s i (subst (λ numbers. Contains numbers i) (other_list s other) among)
      ]

  kept : (s i : ℕ) → Contains (places_of places s) i → Contains (places_of (set places row.from (places_of places row.from ++ n ∷ [])) s) i
  kept s i among =
      elim (cases_eq s row.from) [
        | inl same ↦
            subst (λ numbers. Contains numbers i) (sym (ap (places_of _) same ∙ own_list))
            (Contains-append_left (places_of places row.from) (n ∷ []) i (subst (λ t. Contains (places_of places t) i) same among))
        | inr other ↦ subst (λ numbers. Contains numbers i) (sym (other_list s other)) among
      ]

  each_of_new : (i : ℕ) (found : KissRow) → i < n + 1 → slice_get rows i ≡ Some found
      → Contains (places_of (set places row.from (places_of places row.from ++ n ∷ [])) found.from) i
  each_of_new i found within at_found =
      elim (cases_lt i n) [
        | inl before ↦ kept found.from i (old.each i found before at_found)
        | inr last ↦
            let it : i ≡ n = omega arith in
            let same : found ≡ row = (let both : Some found ≡ Some row = sym at_found ∙ ap (slice_get rows) it ∙ at_row in cc) in
            subst (λ numbers. Contains numbers i) (sym (ap (λ (r : KissRow). places_of (set places row.from (places_of places row.from ++ n ∷ [])) r.from) same ∙ own_list))
            (Contains-append_right (places_of places row.from) (n ∷ []) i (subst (λ k. Contains (n ∷ []) k) (sym it) (contains_itself n)))
      ]

  ascending_of_new : (s : ℕ) → AllPairs (λ i j. i < j) (places_of (set places row.from (places_of places row.from ++ n ∷ [])) s)
  ascending_of_new s =
      elim (cases_eq s row.from) [
        | inl same ↦
            subst (λ numbers. AllPairs (λ i j. i < j) numbers) (sym (ap (places_of _) same ∙ own_list))
            (ascending_more (places_of places row.from) n (old.ascending row.from) (own_below row.from))
        | inr other ↦ subst (λ numbers. AllPairs (λ i j. i < j) numbers) (sym (other_list s other)) (old.ascending s)
      ]

  pub places_with_row : ArePlaces rows states (n + 1) (set places row.from (places_of places row.from ++ n ∷ []))
  places_with_row = record {
    size = length-set places row.from (places_of places row.from ++ n ∷ []) ∙ old.size;
    own = own_of_new;
    each = each_of_new;
    ascending = ascending_of_new;
  }
