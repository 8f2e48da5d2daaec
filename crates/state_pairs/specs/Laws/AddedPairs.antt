-- Lists to which pairs are added, one kind after another.
use Rattle.std.proofs.Common.{◌≡◌, ℕ, ◌+◌, ◌↔◌, ◌⊎◌, List, [], ◌∷◌, ◌++◌, length, get_or, None, Some, Ok, Err, OnOk, Result, Contains, slice_get, inl, inr, sym, ◌∙◌, subst, refl, arith, ap, zero, suc}
use Rattle.std.proofs.lemmas.Bool.{cases_lt}
use Rattle.std.proofs.lemmas.List.{append-nil, append_assoc, get_or_default}
use Rattle.std.proofs.lemmas.List.Elements.{Contains-append_cases, Contains-append_left, Contains-append_right, Contains-get_or}
use Rattle.kiss_file.specs.declared.file.KissFile.{KissFile}
use Rattle.kiss_file.specs.declared.file.KissRow.{KissRow}
use Rattle.state_pairs.specs.AddedPairs.{AddsPairs, AreNamedBy, AtBothPlaces, AtPlace, BelowCount, IsFound, Lengthens, OfSomeRow}
use Rattle.state_rows.specs.Places.{IsNumberOf}
use Rattle.state_pairs.specs.Laws.Asking.{number_of_row}
use Rattle.state_pairs.specs.Laws.Sought.{row_of}

-- what an Ok brings, told in another way
pub on_ok : {T E : Type 0} (r : Result T E) (P Q : Type 0) → (P → Q) → OnOk r P → OnOk r Q
on_ok (Ok x) P Q there has = there has
on_ok (Err e) P Q there has = tt

-- the same pairs, told in another way
pub adds_as : (P Q : ℕ → ℕ → Type 0) (old more : List (ℕ × ℕ)) → ((u v : ℕ) → P u v ↔ Q u v) → AddsPairs P old more → AddsPairs Q old more
adds_as P Q old more same adds = record { longer = adds.longer; each = λ u v. (there u v, back u v) } where
  there : (u v : ℕ) → Contains more (u, v) → Contains old (u, v) ⊎ Q u v
  there u v among =
      elim ((adds.each u v).0 among) [
        | inl before ↦ inl before
        | inr new ↦ inr ((same u v).0 new)
      ]

  back : (u v : ℕ) → Contains old (u, v) ⊎ Q u v → Contains more (u, v)
  back u v (inl before) = (adds.each u v).1 (inl before)
  back u v (inr new) = (adds.each u v).1 (inr ((same u v).1 new))

-- ---- lists that become longer
pub lengthens_none : (old : List (ℕ × ℕ)) → Lengthens old old
lengthens_none old = ([], sym (append-nil old))

pub lengthens_then : (old some more : List (ℕ × ℕ)) → Lengthens old some → Lengthens some more → Lengthens old more
lengthens_then old some more first second =
    (first.0 ++ second.0, second.1 ∙ ap (λ (list : List (ℕ × ℕ)). list ++ second.0) first.1 ∙ append_assoc old first.0 second.0)

-- what was in the list stays in it
pub lengthens_keeps : (old more : List (ℕ × ℕ)) (pair : ℕ × ℕ) → Lengthens old more → Contains old pair → Contains more pair
lengthens_keeps old more pair longer among =
    subst (λ (list : List (ℕ × ℕ)). Contains list pair) (sym longer.1) (Contains-append_left old longer.0 pair among)

-- ---- pairs that are added
-- pairs of one kind, and then those of another
pub adds_then : (P Q : ℕ → ℕ → Type 0) (old some more : List (ℕ × ℕ)) → AddsPairs P old some → AddsPairs Q some more → AddsPairs (λ u v. P u v ⊎ Q u v) old more
adds_then P Q old some more first second =
    record { longer = lengthens_then old some more first.longer second.longer; each = λ u v. (there u v, back u v) }
  where
    there : (u v : ℕ) → Contains more (u, v) → Contains old (u, v) ⊎ (P u v ⊎ Q u v)
    there u v among =
        elim ((second.each u v).0 among) [
          | inr new ↦ inr (inr new)
          | inl before ↦
              elim ((first.each u v).0 before) [
                | inl earlier ↦ inl earlier
                | inr new ↦ inr (inl new)
              ]
        ]

    back : (u v : ℕ) → Contains old (u, v) ⊎ (P u v ⊎ Q u v) → Contains more (u, v)
    back u v (inl before) = (second.each u v).1 (inl ((first.each u v).1 (inl before)))
    back u v (inr (inl new)) = (second.each u v).1 (inl ((first.each u v).1 (inr new)))
    back u v (inr (inr new)) = (second.each u v).1 (inr new)

-- of a kind of which there are none
pub adds_none : (P : ℕ → ℕ → Type 0) (old : List (ℕ × ℕ)) → ((u v : ℕ) → P u v → ⊥) → AddsPairs P old old
adds_none P old none = record { longer = lengthens_none old; each = λ u v. ((λ among. inl among), back u v) } where
  back : (u v : ℕ) → Contains old (u, v) ⊎ P u v → Contains old (u, v)
  back u v (inl before) = before
  back u v (inr new) = absurd (none u v new)

-- of a search that found nothing
pub adds_nothing : (old : List (ℕ × ℕ)) → AddsPairs (IsFound None) old old
adds_nothing old = adds_none (IsFound None) old (λ u v is. none_is_some (u, v) is)
  where
    none_is_some : (pair : ℕ × ℕ) → None ≡ Some pair → ⊥
    none_is_some pair is = cc

-- what was added to no pair is all that is in the list
pub listed_alone : (P : ℕ → ℕ → Type 0) (pairs : List (ℕ × ℕ)) → AddsPairs P [] pairs → (u v : ℕ) → Contains pairs (u, v) ↔ P u v
listed_alone P pairs adds u v = (there, λ has. (adds.each u v).1 (inr has)) where
  there : Contains pairs (u, v) → P u v
  there among =
      elim ((adds.each u v).0 among) [
        | inl none ↦ absurd (omega (arith, none.1))
        | inr has ↦ has
      ]

only : (x y : ℕ × ℕ) → Contains (x ∷ []) y → x ≡ y
only x y (zero, lt, is) = is
only x y (suc k, lt, is) = absurd (omega arith)

-- a pair that is in the list
pub adds_listed : (pair : ℕ × ℕ) (old : List (ℕ × ℕ)) → Contains old pair → AddsPairs (IsFound (Some pair)) old old
adds_listed pair old listed = record { longer = lengthens_none old; each = λ u v. ((λ among. inl among), back u v) } where
  back : (u v : ℕ) → Contains old (u, v) ⊎ IsFound (Some pair) u v → Contains old (u, v)
  back u v (inl among) = among
  back u v (inr is) = let it : pair ≡ (u, v) = cc in subst (λ (p : ℕ × ℕ). Contains old p) it listed

-- the one that was found is put behind the others
pub adds_found : (pair : ℕ × ℕ) (old : List (ℕ × ℕ)) → AddsPairs (IsFound (Some pair)) old (old ++ pair ∷ [])
adds_found pair old = record { longer = (pair ∷ [], refl); each = λ u v. (there u v, back u v) } where
  there : (u v : ℕ) → Contains (old ++ pair ∷ []) (u, v) → Contains old (u, v) ⊎ IsFound (Some pair) u v
  there u v among =
      elim (Contains-append_cases old (pair ∷ []) (u, v) among) [
        | inl before ↦ inl before
        | inr here ↦ inr (ap (λ (p : ℕ × ℕ). Some p) (only pair (u, v) here))
      ]

  back : (u v : ℕ) → Contains old (u, v) ⊎ IsFound (Some pair) u v → Contains (old ++ pair ∷ []) (u, v)
  back u v (inl before) = Contains-append_left old (pair ∷ []) (u, v) before
  back u v (inr is) =
      let same : pair ≡ (u, v) = cc in
      subst (λ (p : ℕ × ℕ). Contains (old ++ pair ∷ []) p) same (Contains-append_right old (pair ∷ []) pair (0, omega arith, refl))

-- ---- what is told of numbers below a count
pub none_below : (R : ℕ → ℕ → ℕ → Type 0) (u v : ℕ) → BelowCount R 0 u v → ⊥
none_below R u v below = absurd (omega (arith, below.1))

pub below_more : (R : ℕ → ℕ → ℕ → Type 0) (i : ℕ) (P : ℕ → ℕ → Type 0) → ((u v : ℕ) → P u v ↔ R i u v) → (u v : ℕ) → (BelowCount R i u v ⊎ P u v) ↔ BelowCount R (i + 1) u v
below_more R i P same u v = (there, back) where
  there : BelowCount R i u v ⊎ P u v → BelowCount R (i + 1) u v
  there (inl (k, below, has)) = (k, omega arith, has)
  there (inr new) = (i, omega arith, (same u v).0 new)

  back : BelowCount R (i + 1) u v → BelowCount R i u v ⊎ P u v
  back (k, below, has) =
      elim (cases_lt k i) [
        | inl lower ↦ inl (k, lower, has)
        | inr here ↦ let at : k ≡ i = omega arith in inr ((same u v).1 (subst (λ (n : ℕ). R n u v) at has))
      ]

pub adds_below_none : (R : ℕ → ℕ → ℕ → Type 0) (old : List (ℕ × ℕ)) → AddsPairs (BelowCount R 0) old old
adds_below_none R old = adds_none (BelowCount R 0) old (none_below R)

pub adds_more : (R : ℕ → ℕ → ℕ → Type 0) (i : ℕ) (P : ℕ → ℕ → Type 0) (old some more : List (ℕ × ℕ)) → ((u v : ℕ) → P u v ↔ R i u v)
    → AddsPairs (BelowCount R i) old some → AddsPairs P some more → AddsPairs (BelowCount R (i + 1)) old more
adds_more R i P old some more same first second =
    adds_as (λ u v. BelowCount R i u v ⊎ P u v) (BelowCount R (i + 1)) old more (below_more R i P same) (adds_then (BelowCount R i) P old some more first second)

-- one row stands at a number
one_row : (rows : List KissRow) (i : ℕ) (row other : KissRow) → slice_get rows i ≡ Some row → slice_get rows i ≡ Some other → row ≡ other
one_row rows i row other first second = let same : Some row ≡ Some other = sym first ∙ second in cc

pub at_this_place : (rows : List KissRow) (numbers : List ℕ) (P : KissRow → ℕ → ℕ → Type 0) (i : ℕ) (row : KissRow) → slice_get rows (get_or numbers i 0) ≡ Some row
    → (u v : ℕ) → P row u v ↔ AtPlace rows numbers P i u v
at_this_place rows numbers P i row at_row u v = ((λ has. (row, at_row, has)), back) where
  back : AtPlace rows numbers P i u v → P row u v
  back (other, at_other, has) = subst (λ (r : KissRow). P r u v) (one_row rows (get_or numbers i 0) other row at_other at_row) has

pub at_these_places : (rows : List KissRow) (first second : List ℕ) (i : ℕ) (row other : KissRow) → slice_get rows (get_or first i 0) ≡ Some row
    → slice_get rows (get_or second i 0) ≡ Some other → (u v : ℕ) → AreNamedBy row other u v ↔ AtBothPlaces rows first second i u v
at_these_places rows first second i row other at_row at_other u v = ((λ has. (row, other, at_row, at_other, has)), back) where
  back : AtBothPlaces rows first second i u v → AreNamedBy row other u v
  back (a, b, at_a, at_b, has) =
      subst (λ (r : KissRow). AreNamedBy r other u v) (one_row rows (get_or first i 0) a row at_a at_row)
      (subst (λ (r : KissRow). AreNamedBy a r u v) (one_row rows (get_or second i 0) b other at_b at_other) has)

-- all numbers of a state are those of its rows
pub at_some_row : (F : KissFile) (s : ℕ) (numbers : List ℕ) (P : KissRow → ℕ → ℕ → Type 0) → ((i : ℕ) → Contains numbers i → IsNumberOf F s i)
    → ((i : ℕ) (row : KissRow) → slice_get F.rows i ≡ Some row → row.from ≡ s → Contains numbers i)
    → (u v : ℕ) → BelowCount (AtPlace F.rows numbers P) (length numbers) u v ↔ OfSomeRow F s P u v
at_some_row F s numbers P own each u v = (there, back) where
  there : BelowCount (AtPlace F.rows numbers P) (length numbers) u v → OfSomeRow F s P u v
  there (k, below, (row, at_row, has)) = (row, row_of F s (get_or numbers k 0) row (own (get_or numbers k 0) (Contains-get_or numbers k 0 below)) at_row, has)

  back : OfSomeRow F s P u v → BelowCount (AtPlace F.rows numbers P) (length numbers) u v
  back (row, (among, from), has) =
      let at_number = number_of_row F row among in
      let place = each among.0 row at_number from in
      let same : among.0 ≡ get_or numbers place.0 0 = sym place.2 ∙ get_or_default numbers place.0 among.0 0 place.1 in
      (place.0, place.1, (row, subst (λ (n : ℕ). slice_get F.rows n ≡ Some row) same at_number, has))
