-- The rows of a gate as texts: a text holds what its term holds, and an irredundant cover of terms is one of texts in any order.
use Rattle.std.proofs.Common.{◌≡◌, ◌≢◌, ℕ, zero, suc, ◌+◌, ◌-◌, ◌^◌, ◌<◌, inl, inr, Bool, true, false, cond, ◌||◌, Option, Some, None, List, [], ◌∷◌, length, map, get_or, slice_get, take, drop, remove, reverse, count_by, All, Contains, IsPermutation, refl, ap, sym, ◌∙◌, subst, arith, zero-add}
use Rattle.std.specs.Cmp.Lexicographic.{slice_cmp}
use Rattle.std.specs.Int.{bit_at}
use Rattle.std.specs.List.{list_any}
use Rattle.std.specs.List.Sorted.{IsSorted, IsSortedBy}
use Rattle.std.specs.Ordering.{is_lt, nat_cmp}
use Rattle.std.proofs.lemmas.Bool.{and_from, and_parts, cases_Bool, cases_eq, false≢true}
use Rattle.std.proofs.lemmas.List.{ext_get_or, get_or-drop, get_or-map, get_or-reverse, get_or-take, length-drop, length-map, length-reverse, length-take}
use Rattle.std.proofs.lemmas.List.Elements.{All-append, All-map, Contains-get_or}
use Rattle.std.proofs.lemmas.List.Folds.{Any-from_list_any, list_any_at}
use Rattle.std.proofs.lemmas.List.FromFn.{get_or-map-range_with_len, length-map-range_with_len}
use Rattle.std.proofs.lemmas.List.Sorted.{All-permutation, Contains-permutation, IsPermutation-map, IsPermutation-sym, list_any-IsPermutation, sum_by-IsPermutation}
use Rattle.std.proofs.lemmas.List.Sums.{sum_by-append}
use Rattle.std.proofs.lemmas.Option.{get_or_from_slice_get, slice_get-get_or, unwrap_or-slice_get}
use Rattle.std.specs.Option.{unwrap_or}
use Rattle.list_facts.specs.Laws.Members.{Contains-from_map, Contains-map}
use Rattle.cover_terms.specs.declared.term.Term.{Term}
use Rattle.cover_terms.specs.Term.{FitsWidth, Holds, HoldsWithDash, IsCovered, LooksAt}
use Rattle.cover_terms.specs.Laws.Bits.{below_width}
use Rattle.cubes.specs.Field.{allows, byte_of, character}
use Rattle.cubes.specs.Symbol.{bit, number_of, lowest_bits}
use Rattle.cubes.specs.Laws.Bits.{bit_from_one, one_from_bit, same_bits, same_digits}
use Rattle.cubes.specs.Laws.Numbers.{number_below}
use Rattle.net_core.specs.Step.{character_holds, row_holds}
use Rattle.gate_rows.specs.GateCovers.{AreHeld, IsGoodCover, IsWithDash}
use Rattle.gate_rows.specs.Inner.Texts.{IsCoverByTerms, byte_at, row_text}
use Rattle.gate_rows.specs.Laws.ReadNumbers.{code_at, number_bit}

-- ---- rows place by place
-- a row holds bits where each character holds the bit at its place
pub places_from_row : (row : List ℕ) (bits : List Bool) → row_holds row bits ≡ true
    → (length row ≡ length bits) × ((k : ℕ) → k < length row → character_holds (get_or row k 0) (get_or bits k false) ≡ true)
places_from_row [] [] h = (refl, λ k lt. absurd (omega arith))
places_from_row [] (b ∷ bits) h = absurd (false≢true h)
places_from_row (c ∷ row) [] h = absurd (false≢true h)
places_from_row (c ∷ row) (b ∷ bits) h =
    let both = and_parts (character_holds c b) (row_holds row bits) h in
    let rest = places_from_row row bits both.1 in (ap suc rest.0, each both.0 rest.1)
  where
    each : character_holds c b ≡ true → ((k : ℕ) → k < length row → character_holds (get_or row k 0) (get_or bits k false) ≡ true)
        → (k : ℕ) → k < length (c ∷ row) → character_holds (get_or (c ∷ row) k 0) (get_or (b ∷ bits) k false) ≡ true
    each first rest zero lt = first
    each first rest (suc k) lt = rest k (omega arith)

pub row_from_places : (row : List ℕ) (bits : List Bool) → length row ≡ length bits → ((k : ℕ) → k < length row → character_holds (get_or row k 0) (get_or bits k false) ≡ true)
    → row_holds row bits ≡ true
row_from_places [] [] long all = refl
row_from_places [] (b ∷ bits) long all = absurd (omega arith)
row_from_places (c ∷ row) [] long all = absurd (omega arith)
row_from_places (c ∷ row) (b ∷ bits) long all =
    and_from (character_holds c b) (row_holds row bits) (all 0 (omega arith)) (row_from_places row bits (omega arith) (λ k lt. all (suc k) (omega arith)))

-- a character holds a bit where it allows it
byte_holds : (c : Option Bool) (b : Bool) → character_holds (byte_of c) b ≡ allows c b
byte_holds None b = refl
byte_holds (Some true) true = refl
byte_holds (Some true) false = refl
byte_holds (Some false) true = refl
byte_holds (Some false) false = refl

allows_from : (cares value b : Bool) → (cares ≡ true → b ≡ value) → allows (cond cares (Some value) None) b ≡ true
allows_from false value b h = refl
allows_from true true true h = refl
allows_from true false false h = refl
allows_from true true false h = absurd (false≢true (h refl))
allows_from true false true h = absurd (false≢true (sym (h refl)))

from_allows : (cares value b : Bool) → allows (cond cares (Some value) None) b ≡ true → cares ≡ true → b ≡ value
from_allows false value b h e = absurd (false≢true e)
from_allows true true true h e = refl
from_allows true false false h e = refl
from_allows true true false h e = absurd (false≢true h)
from_allows true false true h e = absurd (false≢true h)

-- ---- the text of a term
text_length : (width : ℕ) (t : Term) → length (row_text width t) ≡ width
text_length width t = length-map-range_with_len (byte_at t) 0 width

text_at : (width : ℕ) (t : Term) (c : ℕ) → c < width → get_or (row_text width t) c 0 ≡ byte_at t c
text_at width t c lt = get_or-map-range_with_len (byte_at t) 0 width c c 0 lt (omega arith)

code_length : (width v : ℕ) → length (lowest_bits width v) ≡ width
code_length width v = length-map-range_with_len (bit v) 0 width

-- a character of the text holds the bit of a number where the term agrees with it there
character_from : (t : Term) (v c : ℕ) → (LooksAt t c → bit_at v c ≡ bit_at t.value c) → character_holds (byte_at t c) (bit v c) ≡ true
character_from t v c agrees =
    byte_holds (character t.care t.value c) (bit v c)
    ∙ allows_from (bit t.care c) (bit t.value c) (bit v c) (λ cares. same_bits v t.value c c (agrees (one_from_bit t.care c cares)))

from_character : (t : Term) (v c : ℕ) → character_holds (byte_at t c) (bit v c) ≡ true → LooksAt t c → bit_at v c ≡ bit_at t.value c
from_character t v c held looks =
    same_digits v t.value c c
    (from_allows (bit t.care c) (bit t.value c) (bit v c) (sym (byte_holds (character t.care t.value c) (bit v c)) ∙ held) (bit_from_one t.care c looks))

-- the text holds what the term holds
text_from_term : (width : ℕ) (t : Term) (v : ℕ) → Holds t v → row_holds (row_text width t) (lowest_bits width v) ≡ true
unfolding Holds
text_from_term width t v held =
    row_from_places (row_text width t) (lowest_bits width v) (text_length width t ∙ sym (code_length width v))
    (λ c within.
    let lt : c < width = omega (arith, within, text_length width t) in
    ap (λ (n : ℕ). character_holds n (get_or (lowest_bits width v) c false)) (text_at width t c lt)
    ∙ (ap (character_holds (byte_at t c)) (code_at width v c lt) ∙ character_from t v c (held c)))

term_from_text : (width : ℕ) (t : Term) (v : ℕ) → FitsWidth width t → row_holds (row_text width t) (lowest_bits width v) ≡ true → Holds t v
unfolding Holds
term_from_text width t v fits held c looks =
    let lt : c < width = below_width width t.care c fits looks in
    let at = (places_from_row (row_text width t) (lowest_bits width v) held).1 c (omega (arith, lt, text_length width t)) in
    from_character t v c
    (sym (ap (character_holds (byte_at t c)) (code_at width v c lt)) ∙ (sym (ap (λ (n : ℕ). character_holds n (get_or (lowest_bits width v) c false)) (text_at width t c lt)) ∙ at)) looks

-- ---- lists of texts
module _ (width : ℕ) (rows : List Term) (v : ℕ) where
  abbrev pub texts : List (List ℕ)
  texts = map (row_text width) rows

  pub held_from_covered : IsCovered rows v → AreHeld texts (lowest_bits width v)
  held_from_covered h =
      let among = Contains-map (row_text width) rows h.0 h.1 in
      list_any_at (λ row. row_holds row (lowest_bits width v)) texts among.0 (row_text width h.0) among.1
      (ap (λ (row : List ℕ). row_holds row (lowest_bits width v)) among.2 ∙ text_from_term width h.0 v h.2)

  pub covered_from_held : All (FitsWidth width) rows → AreHeld texts (lowest_bits width v) → IsCovered rows v
  covered_from_held fits h =
      let one = Any-from_list_any (λ row. row_holds row (lowest_bits width v)) texts h in
      let found = Contains-from_map (row_text width) rows one.1 (one.0, one.2, one.3) in
      let fit : FitsWidth width found.0 = subst (FitsWidth width) found.1.2 (fits found.1.0 found.0 found.1.1) in (
        found.0,
        found.1,
        term_from_text width found.0 v fit (ap (λ (row : List ℕ). row_holds row (lowest_bits width v)) found.2 ∙ one.4),
      )

-- the number that writes what is read
pub number_for : (read : List Bool) (width : ℕ) → length read ≡ width → (v : ℕ) × (v < 2 ^ width) × (lowest_bits width v ≡ read)
number_for read width long =
    let back : List Bool = reverse read in
    let count : length back ≡ width = length-reverse read ∙ long in (
      number_of back,
      subst (λ (n : ℕ). number_of back < 2 ^ n) count (number_below back),
      ext_get_or false (lowest_bits width (number_of back)) read (code_length width (number_of back) ∙ sym long) (λ c within.
          let lt : c < width = omega (arith, within, code_length width (number_of back)) in
          let e : length read - 1 - (width - 1 - c) ≡ c = omega (arith, lt, long) in
          code_at width (number_of back) c lt
          ∙ (number_bit back width c count lt
          ∙ (get_or-reverse read (width - 1 - c) false (omega (arith, lt, long)) ∙ ap (λ (n : ℕ). get_or read n false) e))),
    )

-- ---- one row of a list that passes a test
count-cons : {X : Type 0} (p : X → Bool) (x : X) (xs : List X) → count_by p (x ∷ xs) ≡ cond (p x) 1 0 + count_by p xs
count-cons p x xs = sum_by-append (λ y. cond (p y) 1 0) (x ∷ []) xs ∙ ap (λ n. n + count_by p xs) (zero-add (cond (p x) 1 0))

none_counted : {X : Type 0} (p : X → Bool) (xs : List X) → list_any p xs ≡ false → count_by p xs ≡ 0
none_counted p [] none = refl
none_counted p (x ∷ xs) none = by (p x) refl none (none_counted p xs)
  where
    by : (test : Bool) → p x ≡ test → (test || list_any p xs) ≡ false → (list_any p xs ≡ false → count_by p xs ≡ 0) → count_by p (x ∷ xs) ≡ 0
    by true is h later = absurd (false≢true (sym h))
    by false is h later = rw (count-cons p x xs, is) (omega (arith, later h))

counted_none : {X : Type 0} (p : X → Bool) (xs : List X) → count_by p xs ≡ 0 → list_any p xs ≡ false
counted_none p [] none = refl
counted_none p (x ∷ xs) none = by (p x) refl (counted_none p xs)
  where
    by : (test : Bool) → p x ≡ test → (count_by p xs ≡ 0 → list_any p xs ≡ false) → (p x || list_any p xs) ≡ false
    by true is later = absurd (let e : count_by p (x ∷ xs) ≡ 1 + count_by p xs = rw (count-cons p x xs, is) refl in omega (arith, e, none))
    by false is later =
        let e : count_by p (x ∷ xs) ≡ 0 + count_by p xs = rw (count-cons p x xs, is) refl in
        ap (λ (test : Bool). test || list_any p xs) is ∙ later (omega (arith, e, none))

-- an item without which none passes is the one that does
sole : {X : Type 0} (p : X → Bool) (xs : List X) (j : ℕ) (d : X) → j < length xs → list_any p xs ≡ true → list_any p (remove xs j) ≡ false
    → (count_by p xs ≡ 1) × (p (get_or xs j d) ≡ true)
sole p [] j d lt some none = absurd (omega arith)
sole p (x ∷ xs) zero d lt some none = by (p x) refl some
  where
    by : (test : Bool) → p x ≡ test → (test || list_any p xs) ≡ true → (count_by p (x ∷ xs) ≡ 1) × (p x ≡ true)
    by true is h = (rw (count-cons p x xs, is) (omega (arith, none_counted p xs none)), is)
    by false is h = absurd (false≢true (sym none ∙ h))
sole p (x ∷ xs) (suc j) d lt some none = by (p x) refl some none (sole p xs j d (omega arith))
  where
    by : (test : Bool) → p x ≡ test → (test || list_any p xs) ≡ true → (test || list_any p (remove xs j)) ≡ false
        → (list_any p xs ≡ true → list_any p (remove xs j) ≡ false → (count_by p xs ≡ 1) × (p (get_or xs j d) ≡ true))
        → (count_by p (x ∷ xs) ≡ 1) × (p (get_or xs j d) ≡ true)
    by true is h free later = absurd (false≢true (sym free))
    by false is h free later =
        let rest = later h free in
        (rw (count-cons p x xs, is) (omega (arith, rest.0)), rest.1)

-- where one item passes, none does without it
alone : {X : Type 0} (p : X → Bool) (xs : List X) (i : ℕ) (d : X) → i < length xs → count_by p xs ≡ 1 → p (get_or xs i d) ≡ true → list_any p (remove xs i) ≡ false
alone p [] i d lt once passes = absurd (omega arith)
alone p (x ∷ xs) zero d lt once passes =
    let e : count_by p (x ∷ xs) ≡ 1 + count_by p xs = rw (count-cons p x xs, passes) refl in
    counted_none p xs (omega (arith, e, once))
alone {X} p (x ∷ xs) (suc i) d lt once passes = by (p x) refl (alone p xs i d (omega arith))
  where
    some : count_by p xs ≡ 0 → ⊥
    some none = false≢true (sym (counted_none p xs none) ∙ list_any_at p xs i d (omega arith) passes)

    by : (test : Bool) → p x ≡ test → (count_by p xs ≡ 1 → p (get_or xs i d) ≡ true → list_any p (remove xs i) ≡ false) → (p x || list_any p (remove xs i)) ≡ false
    by true is later =
        let e : count_by p (x ∷ xs) ≡ 1 + count_by p xs = rw (count-cons p x xs, is) refl in
        absurd (some (omega (arith, e, once)))
    by false is later =
        let e : count_by p (x ∷ xs) ≡ 0 + count_by p xs = rw (count-cons p x xs, is) refl in
        ap (λ (test : Bool). test || list_any p (remove xs i)) is ∙ later (omega (arith, e, once)) passes

-- the images without one of them
remove-map : {X Y : Type 0} (f : X → Y) (xs : List X) (j : ℕ) → remove (map f xs) j ≡ map f (remove xs j)
remove-map f [] zero = refl
remove-map f [] (suc j) = refl
remove-map f (x ∷ xs) zero = refl
remove-map {X} {Y} f (x ∷ xs) (suc j) = ap (λ (ys : List Y). f x ∷ ys) (remove-map f xs j)

-- what holds of each item holds without one of them
all_removed : {X : Type 0} (P : X → Type 0) (xs : List X) (j : ℕ) → All P xs → All P (remove xs j)
all_removed {X} P xs j all = All-append P (take j xs) (drop (suc j) xs) (λ k d lt. at k d lt) (λ k d lt. behind k d lt)
  where
    at : (k : ℕ) (d : X) → k < length (take j xs) → P (get_or (take j xs) k d)
    at k d lt = subst P (sym (get_or-take j xs k d (omega (arith, lt, length-take j xs)))) (all k d (omega (arith, lt, length-take j xs)))

    behind : (k : ℕ) (d : X) → k < length (drop (suc j) xs) → P (get_or (drop (suc j) xs) k d)
    behind k d lt = subst P (sym (get_or-drop (suc j) xs k d)) (all (suc j + k) d (omega (arith, lt, length-drop (suc j) xs)))

-- a term with a dash looks elsewhere as it did
with_dash : (t : Term) (place v k : ℕ) → HoldsWithDash t place v → k ≢ place → LooksAt t k → bit_at v k ≡ bit_at t.value k
unfolding HoldsWithDash
with_dash t place v k held apart looks = held k apart looks

-- ---- the cover
-- a byte that is no dash is a literal
literal_there : (t : Term) (c : ℕ) → byte_at t c ≢ 45 → LooksAt t c
literal_there t c other =
    elim (cases_Bool (bit t.care c)) [
      | inl cares ↦ one_from_bit t.care c cares
      | inr dash ↦ absurd (other (ap (λ (cares : Bool). byte_of (cond cares (Some (bit t.value c)) None)) dash))
    ]

module _ (On Off : List Bool → Type 0) (width : ℕ) (rows : List Term) (names : List (List ℕ)) (on_long : (read : List Bool) → On read → length read ≡ width) (off_long : (read : List Bool) → Off read → length read ≡ width) (cover : IsCoverByTerms On Off width rows) (moved : IsPermutation (map (row_text width) rows) names) where
  abbrev row_texts : List (List ℕ)
  row_texts = map (row_text width) rows

  back : IsPermutation names row_texts
  back = IsPermutation-sym row_texts names moved

  -- a name is the text of a row
  row_of : (name : List ℕ) → Contains names name → (t : Term) × Contains rows t × (row_text width t ≡ name)
  row_of name among = Contains-from_map (row_text width) rows name (Contains-permutation names row_texts name back among)

  -- names and texts hold the same
  same_held : (read : List Bool) → list_any (λ row. row_holds row read) row_texts ≡ list_any (λ row. row_holds row read) names
  same_held read = list_any-IsPermutation (λ row. row_holds row read) row_texts names moved

  on_held_by : (read : List Bool) → On read → AreHeld names read
  on_held_by read on =
      let number = number_for read width (on_long read on) in
      let covered = cover.on_held number.0 number.1 (subst On (sym number.2) on) in
      subst (AreHeld names) number.2 (sym (same_held (lowest_bits width number.0)) ∙ held_from_covered width rows number.0 covered)

  off_free_of : (read : List Bool) → Off read → AreHeld names read → ⊥
  off_free_of read off held =
      let number = number_for read width (off_long read off) in
      let there : AreHeld names (lowest_bits width number.0) = subst (AreHeld names) (sym number.2) held in
      cover.off_free number.0 number.1 (subst Off (sym number.2) off) (covered_from_held width rows number.0 cover.fits (same_held (lowest_bits width number.0) ∙ there))

  needs_literal : (row raised : List ℕ) (place : ℕ) → Contains names row → place < length row → slice_get row place ≢ Some 45 → IsWithDash row place raised
      → (read : List Bool) × Off read × (row_holds raised read ≡ true)
  needs_literal row raised place among inside other dash =
      let found = row_of row among in
      let t : Term = found.0 in
      let count : length row ≡ width = sym (ap length found.2) ∙ text_length width t in
      let low : place < width = omega (arith, inside, count) in
      let row_at : (k : ℕ) → k < width → get_or row k 0 ≡ byte_at t k = λ k lt. sym (ap (λ (text : List ℕ). get_or text k 0) found.2) ∙ text_at width t k lt in
      let looks : LooksAt t place = literal_there t place (λ e.
      other (slice_get-get_or row place 0 inside ∙ ap (λ (c : ℕ). Some c) (row_at place low ∙ e))) in
      let needed = subst (λ (u : Term). (column : ℕ) → LooksAt u column → (v : ℕ) × (v < 2 ^ width) × Off (lowest_bits width v) × HoldsWithDash u column v)
      found.1.2 (cover.literals_needed found.1.0 t found.1.1) place looks in
      let v : ℕ = needed.0 in (
        lowest_bits width v,
        needed.2,
        row_from_places raised (lowest_bits width v) (dash.lengths ∙ (count ∙ sym (code_length width v))) (λ k within.
            let lt : k < width = omega (arith, within, dash.lengths, count) in
            elim (cases_eq k place) [
              | inl same ↦
                  let here : get_or raised k 0 ≡ 45 = ap (λ (n : ℕ). get_or raised n 0) same ∙ get_or_from_slice_get raised place 45 0 dash.dash in
                  ap (λ (c : ℕ). character_holds c (get_or (lowest_bits width v) k false)) here
              | inr apart ↦
                  let here : get_or raised k 0 ≡ byte_at t k =
                  sym (unwrap_or-slice_get raised k 0) ∙ (ap (λ (o : Option ℕ). unwrap_or o 0) (dash.elsewhere k apart) ∙ (unwrap_or-slice_get row k 0 ∙ row_at k lt)) in
                  ap (λ (c : ℕ). character_holds c (get_or (lowest_bits width v) k false)) here
                  ∙ (ap (character_holds (byte_at t k)) (code_at width v k lt) ∙ character_from t v k (with_dash t place v k needed.3 apart))
            ]),
      )

  needs_row : (i : ℕ) → i < length names → (read : List Bool) × On read × (AreHeld (remove names i) read → ⊥)
  needs_row i lt =
      let place = Contains-permutation names row_texts (get_or names i []) back (Contains-get_or names i [] lt) in
      let j : ℕ = place.0 in
      let needed = cover.rows_needed j (omega (arith, place.1, length-map rows (row_text width))) in
      let read : List Bool = lowest_bits width needed.0 in
      let test : List ℕ → Bool = λ row. row_holds row read in
      let some : list_any test row_texts ≡ true = held_from_covered width rows needed.0 (cover.on_held needed.0 needed.1 needed.2) in
      let none : list_any test (remove row_texts j) ≡ false =
      elim (cases_Bool (list_any test (remove row_texts j))) [
        | inl held ↦
            absurd (needed.3 (covered_from_held width (remove rows j) needed.0 (all_removed (FitsWidth width) rows j cover.fits) (sym (ap (list_any test) (remove-map (row_text width) rows j)) ∙ held)))
        | inr free ↦ free
      ] in
      let one = sole test row_texts j (get_or names i []) place.1 some none in
      let counted : count_by test names ≡ 1 = sum_by-IsPermutation (λ row. cond (test row) 1 0) row_texts names moved ∙ one.0 in
      let passes : test (get_or names i []) ≡ true = ap test (sym place.2) ∙ one.1 in
      (read, needed.2, λ held. false≢true (sym (alone test names i [] lt counted passes) ∙ held))

  pub good_cover : IsGoodCover On Off names
  good_cover = record { on_held = on_held_by; off_free = off_free_of; literals_needed = needs_literal; rows_needed = needs_row }

  pub widths : All (λ row. length row ≡ width) names
  widths = All-permutation (λ row. length row ≡ width) row_texts names moved (All-map (λ row. length row ≡ width) (row_text width) rows (λ k d lt. text_length width (get_or rows k d)))

-- ---- order
-- items that ascend by what is read off them
sorted_map : {X Y : Type 0} (f : X → Y) (lt : Y → Y → Bool) (xs : List X) → IsSortedBy (λ x y. lt (f x) (f y)) xs → IsSortedBy lt (map f xs)
sorted_map {X} {Y} f lt [] ascend k e low within = absurd (omega arith)
sorted_map {X} {Y} f lt (x ∷ xs) ascend k e low within =
    let count : length (map f (x ∷ xs)) ≡ length (x ∷ xs) = length-map (x ∷ xs) f in
    let next : get_or (map f (x ∷ xs)) (k + 1) e ≡ f (get_or (x ∷ xs) (k + 1) x) = get_or-map f (x ∷ xs) (k + 1) x e (omega (arith, count)) in
    let here : get_or (map f (x ∷ xs)) k e ≡ f (get_or (x ∷ xs) k x) = get_or-map f (x ∷ xs) k x e (omega (arith, count)) in
    ap (λ (y : Y). lt y (get_or (map f (x ∷ xs)) k e)) next
    ∙ ap (λ (y : Y). lt (f (get_or (x ∷ xs) (k + 1) x)) y) here
    ∙ ascend k x low (omega (arith, count))

pub names_in_order : {X : Type 0} (text : X → List ℕ) (sorted : List X) (names : List (List ℕ)) → IsSortedBy (λ x y. is_lt (slice_cmp nat_cmp (text x) (text y))) sorted → names ≡ map text sorted
    → IsSorted (slice_cmp nat_cmp) names
names_in_order text sorted names ascend named =
    subst (λ (list : List (List ℕ)). IsSorted (slice_cmp nat_cmp) list) (sym named) (sorted_map text (λ x y. is_lt (slice_cmp nat_cmp x y)) sorted ascend)

pub names_moved : {X : Type 0} (text : X → List ℕ) (found sorted : List X) (before names : List (List ℕ)) → map text found ≡ before → IsPermutation found sorted → names ≡ map text sorted → IsPermutation before names
names_moved text found sorted before names is moved named =
    subst (λ (list : List (List ℕ)). IsPermutation list names) is (subst (IsPermutation (map text found)) (sym named) (IsPermutation-map text found sorted moved))
