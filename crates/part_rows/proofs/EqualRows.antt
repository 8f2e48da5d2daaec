-- Equal rows once, row by row.
use Rattle.std.proofs.Common.{◌≡◌, ◌∙◌, ℕ, Bool, false, true, not, ◌||◌, ◌&&◌, List, [], ◌∷◌, ◌++◌, if◌then◌else◌, filter, map, refl, sym, ap, inl, inr}
use Rattle.std.proofs.lemmas.Bool.{cases_Bool, false≢true}
use Rattle.std.proofs.lemmas.List.{append-nil}
use Rattle.std.proofs.lemmas.List.Elements.{filter-append}
use Rattle.std.proofs.lemmas.Map.Views.{any-filter_same}
use Rattle.std.proofs.lemmas.Slice.Eq.{bytes_eq-Decides}
use Rattle.std.specs.List.{list_any}
use Rattle.std.specs.Str.{bytes_eq}
use Rattle.kiss_file.specs.declared.file.KissRow.{KissRow}
use Rattle.part_machines.specs.PartRows.{is_same_row, numbers_of_row, rows_once}
use Rattle.part_rows.specs.Inner.Distinct.{with_row}

-- ---- rows that are the same
numbers_same : (row other : KissRow) → is_same_row row other ≡ true → numbers_of_row row ≡ numbers_of_row other
numbers_same row other is = (bytes_eq-Decides (numbers_of_row row) (numbers_of_row other)).0 is

same_from_numbers : (row other : KissRow) → numbers_of_row row ≡ numbers_of_row other → is_same_row row other ≡ true
same_from_numbers row other is = (bytes_eq-Decides (numbers_of_row row) (numbers_of_row other)).1 is

-- a row that is the same as another tells the others apart as that does
same_as : (first row other : KissRow) (b : Bool) → is_same_row row first ≡ b → is_same_row row other ≡ true → is_same_row first other ≡ b
same_as first row other true is same = same_from_numbers first other (sym (numbers_same row first is) ∙ numbers_same row other same)
same_as first row other false is same =
    elim (cases_Bool (is_same_row first other)) [
      | inl too ↦ absurd (false≢true (sym is ∙ same_from_numbers row first (numbers_same row other same ∙ sym (numbers_same first other too))))
      | inr apart ↦ apart
    ]

same_turned : (row other : KissRow) (b : Bool) → is_same_row row other ≡ b → is_same_row other row ≡ b
same_turned row other b is = same_as other row row b is (same_from_numbers row row refl)

-- ---- one row more
abbrev others : KissRow → List KissRow → List KissRow
others first rows = filter (λ other. not (is_same_row first other)) rows

module _ (first row : KissRow) (once : List KissRow) where
  -- the row is among those that are not the same as the first exactly where it is not the same itself
  among_others : (b : Bool) → is_same_row row first ≡ b → list_any (is_same_row row) (others first once) ≡ (not b && list_any (is_same_row row) once)
  among_others b is = any-filter_same (is_same_row row) (λ other. not (is_same_row first other)) (not b) (λ other same. ap not (same_as first row other b is same)) once

  split_others : others first (once ++ row ∷ []) ≡ others first once ++ others first (row ∷ [])
  split_others = filter-append (λ other. not (is_same_row first other)) once (row ∷ [])

  others_more : (a b : Bool) → list_any (is_same_row row) once ≡ a → is_same_row row first ≡ b
      → first ∷ others first (if a then once else (once ++ row ∷ [])) ≡ (if (b || (not b && a)) then (first ∷ others first once) else ((first ∷ others first once) ++ row ∷ []))
  others_more true true among same = refl
  others_more true false among same = refl
  others_more false true among same =
      let none : others first (row ∷ []) ≡ [] = rw (same_turned row first true same) refl in
      ap (λ (list : List KissRow). first ∷ list) (split_others ∙ ap (λ (list : List KissRow). others first once ++ list) none ∙ append-nil (others first once))
  others_more false false among same =
      let one : others first (row ∷ []) ≡ row ∷ [] = rw (same_turned row first false same) refl in
      ap (λ (list : List KissRow). first ∷ list) (split_others ∙ ap (λ (list : List KissRow). others first once ++ list) one)

  with_first : first ∷ others first (with_row once row) ≡ with_row (first ∷ others first once) row
  with_first =
      others_more (list_any (is_same_row row) once) (is_same_row row first) refl refl
      ∙ ap (λ (b : Bool). if (is_same_row row first || b) then (first ∷ others first once) else ((first ∷ others first once) ++ row ∷ [])) (sym (among_others (is_same_row row first) refl))

pub once_none : [] ≡ rows_once []
unfolding rows_once
once_none = refl

pub once_more : (rows : List KissRow) (row : KissRow) → rows_once (rows ++ row ∷ []) ≡ with_row (rows_once rows) row
unfolding rows_once
once_more [] row = refl
once_more (first ∷ rows) row = ap (λ (list : List KissRow). first ∷ others first list) (once_more rows row) ∙ with_first first row (rows_once rows)

-- ---- the numbers of the rows that were kept
any_mapped : (row : KissRow) (rows : List KissRow) → list_any (bytes_eq (numbers_of_row row)) (map numbers_of_row rows) ≡ list_any (is_same_row row) rows
any_mapped row [] = refl
any_mapped row (first ∷ rows) = ap (λ (b : Bool). is_same_row row first || b) (any_mapped row rows)

module _ (once : List KissRow) (row : KissRow) (keys : List (List ℕ)) (key : List ℕ) (is_new : Bool) (are : keys ≡ map numbers_of_row once) (key_is : key ≡ numbers_of_row row)
    (told : is_new ≡ not (list_any (bytes_eq key) keys)) where
  told_as : is_new ≡ not (list_any (is_same_row row) once)
  told_as = told ∙ ap (λ (k : List ℕ). not (list_any (bytes_eq k) keys)) key_is ∙ ap (λ (list : List (List ℕ)). not (list_any (bytes_eq (numbers_of_row row)) list)) are ∙ ap not (any_mapped row once)

  new_as : (b : Bool) → list_any (is_same_row row) once ≡ b → is_new ≡ not b
  new_as b is = told_as ∙ ap not is

  -- a new row goes last, and one that was seen is left out
  pub new_row : is_new ≡ true → once ++ row ∷ [] ≡ with_row once row
  new_row it_is =
      elim (cases_Bool (list_any (is_same_row row) once)) [
        | inl seen ↦ absurd (false≢true (sym (new_as true seen) ∙ it_is))
        | inr unseen ↦ rw unseen refl
      ]

  pub known_row : is_new ≡ false → once ≡ with_row once row
  known_row it_is =
      elim (cases_Bool (list_any (is_same_row row) once)) [
        | inl seen ↦ rw seen refl
        | inr unseen ↦ absurd (false≢true (sym it_is ∙ new_as false unseen))
      ]
