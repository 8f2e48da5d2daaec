-- Lists of the numbers of rows, put into another order one after another.
use Rattle.std.proofs.Common.{◌≡◌, ℕ, ◌+◌, ◌<◌, ◌↔◌, List, [], ◌∷◌, ◌++◌, length, get_or, Contains, inl, inr, sym, ◌∙◌, subst, arith, ap}
use Rattle.std.proofs.lemmas.Bool.{cases_lt}
use Rattle.std.proofs.lemmas.List.{get_or_append_left, get_or_default, get_or_past, get_or_push}
use Rattle.std.proofs.lemmas.Option.{slice_get_within}
use Rattle.kiss_file.specs.declared.file.KissRow.{KissRow}
use Rattle.state_rows.specs.Places.{ArePlaces, ListRows, places_of}

-- one more list has the numbers of its like
pub same_more : (lists places : List (List ℕ)) (n : ℕ) (list own : List ℕ) → length lists ≡ n → n < length places → own ≡ get_or places n own
    → ((i : ℕ) → Contains list i ↔ Contains own i) → ((s i : ℕ) → s < n → Contains (places_of lists s) i ↔ Contains (places_of places s) i)
    → (s i : ℕ) → s < n + 1 → Contains (places_of (lists ++ list ∷ []) s) i ↔ Contains (places_of places s) i
same_more lists places n list own count inside is same known s i below =
    elim (cases_lt s n) [
      | inl before ↦
          subst (λ (numbers : List ℕ). Contains numbers i ↔ Contains (places_of places s) i)
          (sym (get_or_append_left lists (list ∷ []) [] s (omega (arith, count, before)))) (known s i before)
      | inr last ↦
          let at : s ≡ n = omega arith in
          let here : places_of (lists ++ list ∷ []) s ≡ list = get_or_push lists list [] s (count ∙ sym at) in
          let there : places_of places s ≡ own = ap (places_of places) at ∙ get_or_default places n [] own inside ∙ sym is in
          subst (λ (numbers : List ℕ). Contains numbers i ↔ Contains (places_of places s) i) (sym here)
          (subst (λ (numbers : List ℕ). Contains list i ↔ Contains numbers i) (sym there) (same i))
    ]

-- lists with the same numbers are lists of the same rows
pub listed : (rows : List KissRow) (places lists : List (List ℕ)) → ArePlaces rows (length places) (length rows) places → length lists ≡ length places
    → ((s i : ℕ) → s < length places → Contains (places_of lists s) i ↔ Contains (places_of places s) i) → ListRows rows (length places) lists
listed rows places lists stand count same = record {
  size = count;
  own = λ s i among. let found = stand.own s i ((all s i).0 among) in (found.0, found.2, found.3);
  each = λ i row at_i. (all row.from i).1 (stand.each i row (slice_get_within rows i row at_i) at_i);
}
  where
    all : (s i : ℕ) → Contains (places_of lists s) i ↔ Contains (places_of places s) i
    all s i =
        elim (cases_lt s (length places)) [
          | inl inside ↦ same s i inside
          | inr past ↦
              subst (λ (numbers : List ℕ). Contains numbers i ↔ Contains (places_of places s) i) (sym (get_or_past lists s [] (omega (arith, count, past))))
              (subst (λ (numbers : List ℕ). Contains [] i ↔ Contains numbers i) (sym (get_or_past places s [] past)) ((λ among. among), (λ among. among)))
        ]
