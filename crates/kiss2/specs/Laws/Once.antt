-- Names, each once.
use Rattle.std.proofs.Common.{◌≡◌, ℕ, zero, suc, ◌+◌, ◌<◌, ◌≤◌, Bool, true, false, not, cond, ◌||◌, ◌&&◌, List, [], ◌∷◌, ◌++◌, length, Contains, ap, sym, ◌∙◌, refl, subst, inl, inr, arith, append_assoc, append-nil}
use Rattle.std.specs.Prelude.{filter}
use Rattle.std.specs.List.{flat_map, list_any}
use Rattle.std.specs.Str.{bytes_eq}
use Rattle.std.proofs.lemmas.Bool.{cases_Bool, false≢true, or_left, or_right, or_from, or_parts}
use Rattle.std.proofs.lemmas.List.Elements.{Contains-get_or, filter-append}
use Rattle.std.proofs.lemmas.List.Folds.{list_any-append}
use Rattle.std.proofs.lemmas.List.{length_push}
use Rattle.std.proofs.lemmas.Slice.Eq.{bytes_eq-Decides}
use Rattle.hs_io.specs.declared.lines.Line.{Line}
use Rattle.kiss2.specs.Faults.{has_twice}
use Rattle.kiss2.specs.Inner.ReaderState.{names_on, names_seen, once_after}
use Rattle.kiss_file.specs.Names.{AreDistinct}
use Rattle.kiss2.specs.Standing.{each_once, names_in_column, row_lines, state_names}
use Rattle.kiss2.specs.Words.{current_field, is_name, next_field}
use Rattle.kiss2.specs.Laws.Finding.{contained_from_test, contained_test}

-- a name is another one
abbrev pub differs : List ℕ → List ℕ → Bool
differs name other = not (bytes_eq other name)

-- a name is among names
abbrev pub among : List ℕ → List (List ℕ) → Bool
among name names = list_any (bytes_eq name) names

same_name : (a b : List ℕ) → bytes_eq a b ≡ true → a ≡ b
same_name a b e = (bytes_eq-Decides a b).0 e

pub itself : (a : List ℕ) → bytes_eq a a ≡ true
itself a = (bytes_eq-Decides a a).1 refl

turned : (a b : List ℕ) → bytes_eq a b ≡ false → bytes_eq b a ≡ false
turned a b apart =
    elim (cases_Bool (bytes_eq b a)) [
      | inl same ↦ absurd (false≢true (sym apart ∙ subst (λ n. bytes_eq n b ≡ true) (same_name b a same) (itself b)))
      | inr no_more ↦ no_more
    ]

-- a filter of another name keeps a name
among-filter : (name other : List ℕ) (names : List (List ℕ)) → bytes_eq name other ≡ false → among name (filter (differs other) names) ≡ among name names
among-filter name other [] apart = refl
among-filter name other (x ∷ names) apart =
    elim (cases_Bool (bytes_eq x other)) [
      | inl same ↦
          let is : x ≡ other = same_name x other same in
          let gone : bytes_eq name x ≡ false = subst (λ n. bytes_eq name n ≡ false) (sym is) apart in
          ap (λ t. among name (cond (not t) (x ∷ filter (differs other) names) (filter (differs other) names))) same
          ∙ among-filter name other names apart
          ∙ sym (ap (λ t. t || among name names) gone)
      | inr kept ↦
          ap (λ t. among name (cond (not t) (x ∷ filter (differs other) names) (filter (differs other) names))) kept
          ∙ ap (λ t. bytes_eq name x || t) (among-filter name other names apart)
    ]

-- and its own drops it
gone-filter : (name : List ℕ) (names : List (List ℕ)) → among name (filter (differs name) names) ≡ false
gone-filter name [] = refl
gone-filter name (x ∷ names) =
    elim (cases_Bool (bytes_eq x name)) [
      | inl same ↦ ap (λ t. among name (cond (not t) (x ∷ filter (differs name) names) (filter (differs name) names))) same ∙ gone-filter name names
      | inr kept ↦
          ap (λ t. among name (cond (not t) (x ∷ filter (differs name) names) (filter (differs name) names))) kept
          ∙ or_from (bytes_eq name x) (among name (filter (differs name) names)) (turned x name kept) (gone-filter name names)
    ]

-- the names that are there are the same
pub among-each_once : (name : List ℕ) (names : List (List ℕ)) → among name (each_once names) ≡ among name names
unfolding each_once
among-each_once name [] = refl
among-each_once name (x ∷ names) =
    elim (cases_Bool (bytes_eq name x)) [
      | inl same ↦ or_left (bytes_eq name x) (among name (filter (differs x) (each_once names))) same ∙ sym (or_left (bytes_eq name x) (among name names) same)
      | inr apart ↦ ap (λ t. bytes_eq name x || t) (among-filter name x (each_once names) apart ∙ among-each_once name names)
    ]

filter_once : (other : List ℕ) (names : List (List ℕ)) → has_twice names ≡ false → has_twice (filter (differs other) names) ≡ false
filter_once other [] once = refl
filter_once other (x ∷ names) once =
    let parts = or_parts (among x names) (has_twice names) once in
    elim (cases_Bool (bytes_eq x other)) [
      | inl same ↦ ap (λ t. has_twice (cond (not t) (x ∷ filter (differs other) names) (filter (differs other) names))) same ∙ filter_once other names parts.1
      | inr kept ↦
          ap (λ t. has_twice (cond (not t) (x ∷ filter (differs other) names) (filter (differs other) names))) kept
          ∙ or_from (among x (filter (differs other) names)) (has_twice (filter (differs other) names)) (among-filter x other names kept ∙ parts.0) (filter_once other names parts.1)
    ]

-- each is there once
pub once-each_once : (names : List (List ℕ)) → has_twice (each_once names) ≡ false
unfolding each_once
once-each_once [] = refl
once-each_once (x ∷ names) =
    or_from (among x (filter (differs x) (each_once names))) (has_twice (filter (differs x) (each_once names)))
    (gone-filter x (each_once names)) (filter_once x (each_once names) (once-each_once names))

-- none stands twice: they are distinct
pub distinct_from_once : (names : List (List ℕ)) → has_twice names ≡ false → AreDistinct names
distinct_from_once [] once i j d lt inside = absurd (omega arith)
distinct_from_once (x ∷ names) once zero zero d lt inside = absurd (omega arith)
distinct_from_once (x ∷ names) once zero (suc j) d lt inside =
    λ same. let k : Contains names x = subst (Contains names) (sym same) (Contains-get_or names j d (omega arith)) in
    false≢true (sym (or_parts (among x names) (has_twice names) once).0 ∙ contained_test names x k)
distinct_from_once (x ∷ names) once (suc i) zero d lt inside = absurd (omega arith)
distinct_from_once (x ∷ names) once (suc i) (suc j) d lt inside =
    distinct_from_once names (or_parts (among x names) (has_twice names) once).1 i j d (omega arith) (omega arith)

filter_shorter : (name : List ℕ) (names : List (List ℕ)) → length (filter (differs name) names) ≤ length names
filter_shorter name [] = omega arith
filter_shorter name (x ∷ names) =
    elim (cases_Bool (bytes_eq x name)) [
      | inl same ↦ let h = filter_shorter name names in rw same (omega arith)
      | inr kept ↦ let h = filter_shorter name names in rw kept (omega arith)
    ]

filter_less : (name : List ℕ) (names : List (List ℕ)) → among name names ≡ true → length (filter (differs name) names) < length names
filter_less name [] there = absurd (false≢true there)
filter_less name (x ∷ names) there =
    elim (cases_Bool (bytes_eq x name)) [
      | inl same ↦ let h = filter_shorter name names in rw same (omega arith)
      | inr kept ↦
          let apart : bytes_eq name x ≡ false = turned x name kept in
          let later : among name names ≡ true = sym (ap (λ t. t || among name names) apart) ∙ there in
          let h = filter_less name names later in rw kept (omega arith)
    ]

-- names that are there once, and among others, are no more than these
pub no_more : (names others : List (List ℕ)) → has_twice names ≡ false → ((name : List ℕ) → among name names ≡ true → among name others ≡ true) → length names ≤ length others
no_more [] others once there = omega arith
no_more (x ∷ names) others once there =
    let parts = or_parts (among x names) (has_twice names) once in
    let here : among x others ≡ true = there x (or_left (bytes_eq x x) (among x names) (itself x)) in
    let fewer = filter_less x others here in
    let rest : length names ≤ length (filter (differs x) others) =
    no_more names (filter (differs x) others) parts.1
    (λ name h.
    let apart : bytes_eq name x ≡ false =
    elim (cases_Bool (bytes_eq name x)) [
      | inl same ↦ absurd (false≢true (sym parts.0 ∙ subst (λ n. among n names ≡ true) (same_name name x same) h))
      | inr apart ↦ apart
    ] in
    among-filter name x others apart ∙ there name (or_right (bytes_eq name x) (among name names) h)) in
    omega arith

-- names that are there once and are the same ones are as many
pub as_many : (names others : List (List ℕ)) → ((name : List ℕ) → among name names ≡ among name others) → length (each_once names) ≡ length (each_once others)
as_many names others same =
    let one = no_more (each_once names) (each_once others) (once-each_once names) (λ name h. among-each_once name others ∙ (sym (same name) ∙ (sym (among-each_once name names) ∙ h))) in
    let two = no_more (each_once others) (each_once names) (once-each_once others) (λ name h. among-each_once name names ∙ (same name ∙ (sym (among-each_once name others) ∙ h))) in
    omega arith

-- one name more
each_once-push : (names : List (List ℕ)) (name : List ℕ) → each_once (names ++ name ∷ []) ≡ cond (among name (each_once names)) (each_once names) (each_once names ++ name ∷ [])
unfolding each_once
each_once-push [] name = refl
each_once-push (x ∷ names) name =
    let front = each_once names in
    let kept = filter (differs x) front in
    ap (λ rest. x ∷ filter (differs x) rest) (each_once-push names name)
    ∙ elim (cases_Bool (bytes_eq name x)) [
      | inl same ↦
          let drops : filter (differs x) (name ∷ []) ≡ [] = rw same refl in
          let whole : filter (differs x) (cond (among name front) front (front ++ name ∷ [])) ≡ kept =
          elim (cases_Bool (among name front)) [
            | inl there ↦ ap (λ t. filter (differs x) (cond t front (front ++ name ∷ []))) there
            | inr absent ↦ ap (λ t. filter (differs x) (cond t front (front ++ name ∷ []))) absent ∙ (filter-append (differs x) front (name ∷ []) ∙ (ap (λ r. kept ++ r) drops ∙ append-nil kept))
          ] in
          ap (λ r. x ∷ r) whole ∙ sym (ap (λ t. cond (t || among name kept) (x ∷ kept) (x ∷ (kept ++ name ∷ []))) same)
      | inr apart ↦
          let keeps : filter (differs x) (name ∷ []) ≡ name ∷ [] = rw apart refl in
          let there_too : among name kept ≡ among name front = among-filter name x front apart in
          sym (ap (λ t. cond (t || among name kept) (x ∷ kept) (x ∷ (kept ++ name ∷ []))) apart ∙ ap (λ t. cond t (x ∷ kept) (x ∷ (kept ++ name ∷ []))) there_too
          ∙ elim (cases_Bool (among name front)) as (λ _. cond (among name front) (x ∷ kept) (x ∷ (kept ++ name ∷ [])) ≡ x ∷ filter (differs x) (cond (among name front) front (front ++ name ∷ []))) [
            | inl there ↦ rw there refl
            | inr absent ↦ rw (absent, filter-append (differs x) front (name ∷ []), keeps) refl
          ])
    ]

-- more names
pub each_once-append : (names others : List (List ℕ)) → each_once (names ++ others) ≡ once_after (each_once names) others
each_once-append names [] = ap each_once (append-nil names)
each_once-append names (x ∷ others) =
    ap each_once (sym (append_assoc names (x ∷ []) others))
    ∙ (each_once-append (names ++ x ∷ []) others ∙ ap (λ front. once_after front others) (each_once-push names x))

module _ (name : List ℕ) where
  among-cond : (test : Bool) (x : List ℕ) (names : List (List ℕ)) → among name (cond test (x ∷ names) names) ≡ ((test && bytes_eq name x) || among name names)
  among-cond true x names = refl
  among-cond false x names = refl

  regroup : (a b p q : Bool) → ((a || (b || false)) || (p || q)) ≡ ((a || p) || (b || q))
  regroup true b p q = refl
  regroup false true true q = refl
  regroup false true false q = refl
  regroup false false p q = refl

  -- the names of rows, row by row and column by column
  pub among-rows : (rows : List Line) → among name (flat_map names_on rows) ≡ among name (names_in_column 1 rows ++ names_in_column 2 rows)
  among-rows [] = refl
  among-rows (row ∷ rows) =
      let current = current_field row in
      let next = next_field row in
      let one : Bool = is_name current && bytes_eq name current in
      let two : Bool = is_name next && bytes_eq name next in
      list_any-append (bytes_eq name) (names_on row) (flat_map names_on rows)
      ∙ ap (λ t. t || among name (flat_map names_on rows))
      (among-cond (is_name current) current (filter is_name (next ∷ [])) ∙ ap (λ t. one || t) (among-cond (is_name next) next []))
      ∙ ap (λ t. (one || (two || false)) || t) (among-rows rows ∙ list_any-append (bytes_eq name) (names_in_column 1 rows) (names_in_column 2 rows))
      ∙ regroup one two (among name (names_in_column 1 rows)) (among name (names_in_column 2 rows))
      ∙ sym (list_any-append (bytes_eq name) (names_in_column 1 (row ∷ rows)) (names_in_column 2 (row ∷ rows))
      ∙ (ap (λ t. t || among name (names_in_column 2 (row ∷ rows))) (among-cond (is_name current) current (names_in_column 1 rows))
      ∙ ap (λ t. (one || among name (names_in_column 1 rows)) || t) (among-cond (is_name next) next (names_in_column 2 rows))))

-- as many names are seen as there are states
pub seen_count : (lines : List Line) → length (names_seen lines) ≡ length (state_names lines)
unfolding names_seen state_names
seen_count lines =
    as_many (flat_map names_on (row_lines lines)) (names_in_column 1 (row_lines lines) ++ names_in_column 2 (row_lines lines)) (λ name. among-rows name (row_lines lines))

-- and the same
pub seen_among : (name : List ℕ) (lines : List Line) → among name (names_seen lines) ≡ among name (state_names lines)
unfolding names_seen state_names
seen_among name lines =
    among-each_once name (flat_map names_on (row_lines lines))
    ∙ (among-rows name (row_lines lines) ∙ sym (among-each_once name (names_in_column 1 (row_lines lines) ++ names_in_column 2 (row_lines lines))))

-- a name that is put last where it is new
pub put_once : (names new : List (List ℕ)) (name : List ℕ) → (Contains names name → new ≡ names) → ((Contains names name → ⊥) → new ≡ names ++ name ∷ []) → is_name name ≡ true
    → new ≡ once_after names (filter is_name (name ∷ []))
put_once names new name known last is =
    let named : once_after names (filter is_name (name ∷ [])) ≡ cond (among name names) names (names ++ name ∷ []) = ap (λ t. once_after names (cond t (name ∷ []) [])) is in
    elim (cases_Bool (among name names)) [
      | inl there ↦ known (contained_from_test names name there) ∙ sym (named ∙ ap (λ t. cond t names (names ++ name ∷ [])) there)
      | inr absent ↦ last (λ h. false≢true (sym absent ∙ contained_test names name h)) ∙ sym (named ∙ ap (λ t. cond t names (names ++ name ∷ [])) absent)
    ]

-- a field that is no name is not put
pub put_none : (names : List (List ℕ)) (field : List ℕ) → is_name field ≡ false → names ≡ once_after names (filter is_name (field ∷ []))
put_none names field is = sym (ap (λ t. once_after names (cond t (field ∷ []) [])) is)

-- two names, one after the other
pub put_both : (names : List (List ℕ)) (first second : List ℕ)
    → once_after (once_after names (filter is_name (first ∷ []))) (filter is_name (second ∷ [])) ≡ once_after names (filter is_name (first ∷ second ∷ []))
put_both names first second = both (is_name first) where
  both : (test : Bool) → once_after (once_after names (cond test (first ∷ []) [])) (filter is_name (second ∷ [])) ≡ once_after names (cond test (first ∷ filter is_name (second ∷ [])) (filter is_name (second ∷ [])))
  both true = refl
  both false = refl

-- at most one name more
pub put_few : (names : List (List ℕ)) (field : List ℕ) → length (once_after names (filter is_name (field ∷ []))) ≤ length names + 1
put_few names field = few (is_name field) where
  push : (test : Bool) → length (cond test names (names ++ field ∷ [])) ≤ length names + 1
  push true = omega arith
  push false = omega (arith, length_push names field)

  few : (test : Bool) → length (once_after names (cond test (field ∷ []) [])) ≤ length names + 1
  few true = push (among field names)
  few false = omega arith

-- lines with the same rows have the same states
pub names_same : (lines others : List Line) → row_lines others ≡ row_lines lines → state_names others ≡ state_names lines
unfolding state_names
names_same lines others same = ap (λ rows. each_once (names_in_column 1 rows ++ names_in_column 2 rows)) same
