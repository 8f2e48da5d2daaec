-- The first element of a list with a property, and names that stand twice.
use Rattle.std.proofs.Common.{◌≡◌, ℕ, zero, suc, ◌+◌, ◌<◌, Bool, true, false, ltb, List, [], ◌∷◌, ◌++◌, length, get_or, take, drop, Option, Some, None, Contains, ap, sym, ◌∙◌, refl, subst, inl, inr, arith}
use Rattle.std.specs.Prelude.{find, slice_get}
use Rattle.std.specs.List.{list_any, position_or_len}
use Rattle.std.specs.Str.{bytes_eq}
use Rattle.std.proofs.lemmas.Bool.{false_from_ne_true, false≢true, lt-ltb, or_cases, or_right, or_left, or_from}
use Rattle.std.proofs.lemmas.List.Folds.{find_at, list_any-append, list_any-from_Any, Any-from_list_any}
use Rattle.std.proofs.lemmas.List.Sums.{position_or_len_is}
use Rattle.std.proofs.lemmas.List.{append_assoc, drop_more, get_or_read, take-append-drop}
use Rattle.std.proofs.lemmas.Option.{get_or_from_slice_get, slice_get-get_or, slice_get_past, slice_get_within}
use Rattle.std.proofs.lemmas.Slice.Eq.{bytes_eq-Decides}
use Rattle.std.specs.Option.{IfNone, IfSome, is_some, option_map}
use Rattle.kiss2.specs.declared.fault.KissKind.TheVariants.{OverLimit}
use Rattle.kiss2.specs.declared.fault.KissLimit.TheVariants.{NameBytes}
use Rattle.kiss2.specs.Faults.{has_twice, long_name}
use Rattle.kiss_file.specs.Names.{AreDistinct}

module _ {X : Type 0} (p : X → Bool) (xs : List X) (d : X) where
  pub find_first : (i : ℕ) → i < length xs → ((k : ℕ) → k < i → p (get_or xs k d) ≡ false) → p (get_or xs i d) ≡ true → find p xs ≡ Some (get_or xs i d)
  find_first i inside before here =
      let at : position_or_len p xs ≡ i = position_or_len_is p xs i d (omega arith) before (λ _. here) in
      find_at p xs ∙ (ap (λ n. slice_get xs n) at ∙ slice_get-get_or xs i d inside)

  pub find_none : ((k : ℕ) → k < length xs → p (get_or xs k d) ≡ false) → find p xs ≡ None
  find_none before =
      let at : position_or_len p xs ≡ length xs = position_or_len_is p xs (length xs) d (omega arith) before (λ lt. absurd (omega arith)) in
      find_at p xs ∙ (ap (λ n. slice_get xs n) at ∙ slice_get_past xs (length xs) (omega arith))

-- a name is found among names where it stands there
pub contained_test : (names : List (List ℕ)) (name : List ℕ) → Contains names name → list_any (bytes_eq name) names ≡ true
contained_test names name h =
    list_any-from_Any (bytes_eq name) names (h.0, name, h.1, h.2, (bytes_eq-Decides name name).1 refl)

pub contained_from_test : (names : List (List ℕ)) (name : List ℕ) → list_any (bytes_eq name) names ≡ true → Contains names name
contained_from_test names name h =
    let found = Any-from_list_any (bytes_eq name) names h in
    let same : name ≡ found.1 = (bytes_eq-Decides name found.1).0 found.4 in
    (found.0, found.2, subst (λ n. get_or names found.0 n ≡ n) (sym same) found.3)

pub absent_test : (names : List (List ℕ)) (name : List ℕ) → (Contains names name → ⊥) → list_any (bytes_eq name) names ≡ false
absent_test names name none = false_from_ne_true _ (λ t. none (contained_from_test names name t))

-- distinct names: none stands twice
pub once_from_distinct : (names : List (List ℕ)) → AreDistinct names → has_twice names ≡ false
once_from_distinct [] distinct = refl
once_from_distinct (name ∷ names) distinct =
    let absent : list_any (bytes_eq name) names ≡ false =
    absent_test names name (λ h. distinct 0 (suc h.0) name (omega arith) (omega (arith, h.1)) (sym h.2)) in
    or_from (list_any (bytes_eq name) names) (has_twice names) absent (once_from_distinct names (λ i j d lt inside. distinct (suc i) (suc j) d (omega arith) (omega arith)))

-- a name that comes again
pub twice_from_contained : (front : List (List ℕ)) (name : List ℕ) (rest : List (List ℕ)) → Contains front name → has_twice (front ++ name ∷ rest) ≡ true
twice_from_contained [] name rest h = absurd (omega (arith, h.1))
twice_from_contained (other ∷ front) name rest (zero, lt, same) =
    or_left (list_any (bytes_eq other) (front ++ name ∷ rest)) (has_twice (front ++ name ∷ rest))
    (contained_test (front ++ name ∷ rest) other (there front name rest other same)) where
      there : (front : List (List ℕ)) (name : List ℕ) (rest : List (List ℕ)) (other : List ℕ) → other ≡ name → Contains (front ++ name ∷ rest) other
      there [] name rest other same = (0, omega arith, sym same)
      there (x ∷ front) name rest other same = let h = there front name rest other same in (suc h.0, omega (arith, h.1), h.2)
twice_from_contained (other ∷ front) name rest (suc k, lt, same) =
    or_right (list_any (bytes_eq other) (front ++ name ∷ rest)) (has_twice (front ++ name ∷ rest)) (twice_from_contained front name rest (k, omega arith, same))

-- names that stand twice do so whatever follows
pub twice_more : (front rest : List (List ℕ)) → has_twice front ≡ true → has_twice (front ++ rest) ≡ true
twice_more [] rest h = absurd (false≢true h)
twice_more (name ∷ front) rest h =
    elim (or_cases (list_any (bytes_eq name) front) (has_twice front) h) [
      | inl here ↦ or_left (list_any (bytes_eq name) (front ++ rest)) (has_twice (front ++ rest)) (list_any-append (bytes_eq name) front rest ∙ or_left (list_any (bytes_eq name) front) (list_any (bytes_eq name) rest) here)
      | inr later ↦ or_right (list_any (bytes_eq name) (front ++ rest)) (has_twice (front ++ rest)) (twice_more front rest later)
    ]

-- a name at a place comes again
pub twice_at : (seen names : List (List ℕ)) (i : ℕ) (name : List ℕ) → i < length names → name ≡ get_or names i name → Contains (seen ++ take i names) name → has_twice (seen ++ names) ≡ true
twice_at seen names i name inside here again =
    let split : seen ++ names ≡ (seen ++ take i names) ++ name ∷ drop (i + 1) names =
    ap (λ xs. seen ++ xs) (sym (take-append-drop i names) ∙ ap (λ xs. take i names ++ xs) (drop_more names i name inside ∙ ap (λ n. n ∷ drop (i + 1) names) (sym here))) ∙ sym (append_assoc seen (take i names) (name ∷ drop (i + 1) names)) in
    rw split (twice_from_contained (seen ++ take i names) name (drop (i + 1) names) again)

-- the first name that is too long
pub long_first : (names : List (List ℕ)) (i : ℕ) (name : List ℕ) → i < length names → ((k : ℕ) → k < i → ltb 64 (length (get_or names k [])) ≡ false)
    → name ≡ get_or names i name → 64 < length name → long_name names ≡ Some (OverLimit NameBytes (length name))
long_first names i name inside before here long =
    let same : get_or names i [] ≡ name = sym (get_or_read names i name inside here []) in
    let test : ltb 64 (length (get_or names i [])) ≡ true = lt-ltb 64 (length (get_or names i [])) (rw same long) in
    ap (λ found. option_map (λ n. OverLimit NameBytes (length n)) found) (find_first (λ n. ltb 64 (length n)) names [] i inside before test)
    ∙ ap (λ n. Some (OverLimit NameBytes (length n))) same

pub none_long : (names : List (List ℕ)) → ((k : ℕ) → k < length names → ltb 64 (length (get_or names k [])) ≡ false) → long_name names ≡ None
none_long names before = ap (λ found. option_map (λ n. OverLimit NameBytes (length n)) found) (find_none (λ n. ltb 64 (length n)) names [] before)

-- a name that has a number stands there
pub contained_at : (names : List (List ℕ)) (name : List ℕ) (number : Option ℕ) → is_some number ≡ true → IfSome number (λ n. slice_get names n ≡ Some name) → Contains names name
contained_at names name None some h = absurd (false≢true some)
contained_at names name (Some n) some h = (n, slice_get_within names n name h, get_or_from_slice_get names n name name h)

-- one that has none does not
pub not_contained : (names : List (List ℕ)) (name : List ℕ) (number : Option ℕ) → is_some number ≡ false → IfNone number (Contains names name → ⊥) → Contains names name → ⊥
not_contained names name None some h = h
not_contained names name (Some n) some h = absurd (false≢true (sym some))
