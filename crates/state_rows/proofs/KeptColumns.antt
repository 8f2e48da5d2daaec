-- The columns of the states of one leader, gathered leader by leader and state by state.
use Rattle.std.proofs.Common.{◌≡◌, ℕ, ◌+◌, ◌<◌, List, [], ◌∷◌, ◌++◌, length, get_or, All, Contains, Option, None, Some, false, true, not, slice_index, inl, inr, sym, ◌∙◌, subst, refl, arith, ap, length-append, ◌↔◌}
use Rattle.std.proofs.Math.Dec.{eqb}
use Rattle.std.specs.Option.{option_eq}
use Rattle.std.proofs.lemmas.Bool.{cases_lt, eqb-true, false≢true, not-false}
use Rattle.std.proofs.lemmas.List.{get_or_default}
use Rattle.std.proofs.lemmas.List.Elements.{Contains-append_left, Contains-get_or, Contains-push, Contains-push_cases}
use Rattle.kiss_file.specs.declared.file.KissRow.{KissRow}
use Rattle.list_facts.specs.Laws.Places.{each_pushed}
use Rattle.state_rows.specs.Columns.{AreColumns, AreKept, ArePicked, HaveSameCubes, IsAtPlace, IsNamedByKept, IsLedBy, NameOne, RepresentBoth, RepresentColumns}
use Rattle.state_rows.specs.Places.{ListRows, places_of}

-- what compares as the same is the same
pub same_option : (a b : Option ℕ) → false ≡ not (option_eq eqb a b) → a ≡ b
same_option a b is = equal a b (not-false (option_eq eqb a b) (sym is)) where
  equal : (a b : Option ℕ) → option_eq eqb a b ≡ true → a ≡ b
  equal None None same = refl
  equal None (Some y) same = absurd (false≢true same)
  equal (Some x) None same = absurd (false≢true same)
  equal (Some x) (Some y) same = ap Some (eqb-true x y same)

-- rows at two places that name what was read there name one next state, where the same was read
pub name_one : (rows : List KissRow) (numbers : List ℕ) (first second : ℕ) (a b : Option ℕ) → ((row : KissRow) → IsAtPlace rows numbers first row → a ≡ row.to)
    → ((row : KissRow) → IsAtPlace rows numbers second row → b ≡ row.to) → a ≡ b → NameOne rows numbers first second
name_one rows numbers first second a b at_first at_second same row other one two = sym (at_first row one) ∙ same ∙ at_second other two

-- one more state names the same at two places
pub equal_next : (rows : List KissRow) (places : List (List ℕ)) (states : List ℕ) (n first second : ℕ) (numbers : List ℕ) → n < length states
    → numbers ≡ places_of places (get_or states n 0) → NameOne rows numbers first second
    → ((i d : ℕ) → i < n → NameOne rows (places_of places (get_or states i d)) first second)
    → (i d : ℕ) → i < n + 1 → NameOne rows (places_of places (get_or states i d)) first second
equal_next rows places states n first second numbers inside is now known i d below =
    elim (cases_lt i n) [
      | inl before ↦ known i d before
      | inr last ↦
          let at : n ≡ i = omega arith in
          let same : get_or states n 0 ≡ get_or states i d = get_or_default states n 0 d inside ∙ ap (λ (k : ℕ). get_or states k d) at in
          subst (λ (list : List ℕ). NameOne rows list first second) (is ∙ ap (places_of places) same) now
    ]

-- the numbers below one more
pub below_pushed : (list : List ℕ) (n : ℕ) → ((i : ℕ) → Contains list i ↔ (i < n)) → (i : ℕ) → Contains (list ++ n ∷ []) i ↔ (i < n + 1)
below_pushed list n known i = (there, back) where
  there : Contains (list ++ n ∷ []) i → i < n + 1
  there among =
      elim (Contains-push_cases list n i among) [
        | inl old ↦ omega (arith, (known i).0 old)
        | inr here ↦ omega (arith, here)
      ]

  back : i < n + 1 → Contains (list ++ n ∷ []) i
  back below =
      elim (cases_lt i n) [
        | inl before ↦ Contains-append_left list (n ∷ []) i ((known i).1 before)
        | inr now ↦ let here : n ≡ i = omega arith in subst (λ (k : ℕ). Contains (list ++ n ∷ []) k) here (Contains-push list n)
      ]

-- the states of a leader among one more state
module _ (leaders : List ℕ) (leader n : ℕ) (states : List ℕ) (known : (i : ℕ) → Contains states i ↔ ((i < n) × (slice_index leaders i ≡ leader))) where
  pub led_pushed : slice_index leaders n ≡ leader → (i : ℕ) → Contains (states ++ n ∷ []) i ↔ ((i < n + 1) × (slice_index leaders i ≡ leader))
  led_pushed is i = (there, back) where
    there : Contains (states ++ n ∷ []) i → (i < n + 1) × (slice_index leaders i ≡ leader)
    there among =
        elim (Contains-push_cases states n i among) [
          | inl old ↦ let it = (known i).0 old in (omega (arith, it.0), it.1)
          | inr here ↦ (omega (arith, here), subst (λ (k : ℕ). slice_index leaders k ≡ leader) here is)
        ]

    back : (i < n + 1) × (slice_index leaders i ≡ leader) → Contains (states ++ n ∷ []) i
    back (below, led) =
        elim (cases_lt i n) [
          | inl before ↦ Contains-append_left states (n ∷ []) i ((known i).1 (before, led))
          | inr now ↦ let here : n ≡ i = omega arith in subst (λ (k : ℕ). Contains (states ++ n ∷ []) k) here (Contains-push states n)
        ]

  pub led_passed : (slice_index leaders n ≡ leader → ⊥) → (i : ℕ) → Contains states i ↔ ((i < n + 1) × (slice_index leaders i ≡ leader))
  led_passed other i = (there, back) where
    there : Contains states i → (i < n + 1) × (slice_index leaders i ≡ leader)
    there among = let it = (known i).0 among in (omega (arith, it.0), it.1)

    back : (i < n + 1) × (slice_index leaders i ≡ leader) → Contains states i
    back (below, led) =
        elim (cases_lt i n) [
          | inl before ↦ (known i).1 (before, led)
          | inr now ↦ let here : i ≡ n = omega arith in absurd (other (subst (λ (k : ℕ). slice_index leaders k ≡ leader) here led))
        ]

-- what is kept stays kept with one more place
pub kept_still : (rows : List KissRow) (places : List (List ℕ)) (states kept : List ℕ) (one k : ℕ) → IsNamedByKept rows places states kept k
    → IsNamedByKept rows places states (kept ++ one ∷ []) k
kept_still rows places states kept one k (j, among, same) = (j, Contains-append_left kept (one ∷ []) j among, same)

-- the row of a place names what it names
pub names_itself : (rows : List KissRow) (numbers : List ℕ) (k : ℕ) → NameOne rows numbers k k
names_itself rows numbers k row other first second =
    let both : Some row ≡ Some other = sym first.1 ∙ second.1 in
    let same : row ≡ other = cc in
    ap (λ (r : KissRow). r.to) same

pub kept_itself : (rows : List KissRow) (places : List (List ℕ)) (states kept : List ℕ) (one : ℕ) → IsNamedByKept rows places states (kept ++ one ∷ []) one
kept_itself rows places states kept one = (one, Contains-push kept one, λ s is. names_itself rows (places_of places s) one)

-- one more place of an order is kept
pub kept_next : (rows : List KissRow) (places : List (List ℕ)) (states order kept more : List ℕ) (n : ℕ) → n < length order
    → ((k : ℕ) → IsNamedByKept rows places states kept k → IsNamedByKept rows places states more k) → IsNamedByKept rows places states more (get_or order n 0)
    → ((i d : ℕ) → i < n → IsNamedByKept rows places states kept (get_or order i d)) → (i d : ℕ) → i < n + 1 → IsNamedByKept rows places states more (get_or order i d)
kept_next rows places states order kept more n inside still now known i d below =
    elim (cases_lt i n) [
      | inl before ↦ still (get_or order i d) (known i d before)
      | inr last ↦
          let at : n ≡ i = omega arith in
          let same : get_or order n 0 ≡ get_or order i d = get_or_default order n 0 d inside ∙ ap (λ (k : ℕ). get_or order k d) at in
          subst (IsNamedByKept rows places states more) same now
    ]

-- what is kept of the places below a count
pub represent_kept : (rows : List KissRow) (places : List (List ℕ)) (states order kept : List ℕ) (count : ℕ) → ((k : ℕ) → Contains order k ↔ (k < count))
    → ((j : ℕ) → Contains kept j → Contains order j) → ((k : ℕ) → Contains order k → IsNamedByKept rows places states kept k)
    → RepresentColumns rows places (Contains states) count kept
represent_kept rows places states order kept count all within each = record {
  within = λ j among. (all j).0 (within j among);
  each = λ k below. each k ((all k).1 below);
}

-- columns for a kind of states are columns for those of them that are of another kind
pub represent_fewer : (rows : List KissRow) (places : List (List ℕ)) (Wide Narrow : ℕ → Type 0) (count : ℕ) (kept : List ℕ)
    → RepresentColumns rows places Wide count kept → ((s : ℕ) → Narrow s → Wide s) → RepresentColumns rows places Narrow count kept
represent_fewer rows places Wide Narrow count kept wide fewer = record {
  within = wide.within;
  each = λ k below. let one = wide.each k below in (one.0, one.1, λ s is. one.2 s (fewer s is));
}

-- one more leader
pub kept_more : (rows : List KissRow) (places : List (List ℕ)) (leaders : List ℕ) (n : ℕ) (kept : List (List ℕ)) (list : List ℕ) → AreKept rows places leaders n kept
    → RepresentColumns rows places (IsLedBy leaders n) (length (places_of places n)) list → AreKept rows places leaders (n + 1) (kept ++ list ∷ [])
kept_more rows places leaders n kept list known last = record {
  size = omega (arith, known.size, length-pushed kept list);
  each = each_pushed kept (kept ++ list ∷ []) list [] n (λ leader places_kept. RepresentColumns rows places (IsLedBy leaders leader) (length (places_of places leader)) places_kept)
      known.size refl known.each last;
}
  where
    length-pushed : (lists : List (List ℕ)) (one : List ℕ) → length (lists ++ one ∷ []) ≡ length lists + 1
    length-pushed lists one = omega (arith, length-append lists (one ∷ []))

module _ (rows : List KissRow) (places : List (List ℕ)) (stand : ListRows rows (length places) places) where
  row_there : (s k : ℕ) → k < length (places_of places s) → (row : KissRow) × IsAtPlace rows (places_of places s) k row
  row_there s k below =
      let own = stand.own s (get_or (places_of places s) k 0) (Contains-get_or (places_of places s) k 0 below) in (own.0, (below, own.1))

  -- two states with the cubes of a third have the same cubes
  pub alike_by_leader : (leader s t : ℕ) → HaveSameCubes rows (places_of places leader) (places_of places s)
      → HaveSameCubes rows (places_of places leader) (places_of places t) → HaveSameCubes rows (places_of places s) (places_of places t)
  alike_by_leader leader s t first second = record {
    count = sym first.count ∙ second.count;
    cubes = λ place row other at_row at_other.
        let own = row_there leader place (omega (arith, at_row.0, first.count)) in
        let a = first.cubes place own.0 row own.1 at_row in
        let b = second.cubes place own.0 other own.1 at_other in
        record { care = sym a.care ∙ b.care; value = sym a.value ∙ b.value };
  }

  module _ (leaders : List ℕ) (kept columns : List (List ℕ)) (size : length leaders ≡ length places) (inside : All (λ leader. leader < length places) leaders)
      (alike : (s : ℕ) → s < length places → HaveSameCubes rows (places_of places (slice_index leaders s)) (places_of places s))
      (known : AreKept rows places leaders (length places) kept) (count : length columns ≡ length places)
      (picked : (s : ℕ) → s < length places → ArePicked (places_of places s) (places_of kept (slice_index leaders s)) (places_of columns s)) where
    both : (s t : ℕ) → s < length places → t < length places → slice_index leaders s ≡ slice_index leaders t
        → RepresentBoth rows (places_of places s) (places_of places t) (places_of columns s) (places_of columns t)
    both s t first second same =
        let leader = slice_index leaders s in
        let led : s < length leaders = omega (arith, size, first) in
        let it = known.each leader (inside s 0 led) in
        let counts = (alike s first).count in
        record {
          kept = places_of kept leader;
          picked_first = picked s first;
          picked_second = subst (λ (n : ℕ). ArePicked (places_of places t) (places_of kept n) (places_of columns t)) (sym same) (picked t second);
          within = λ j among. omega (arith, it.within j among, counts);
          each = λ k below. let one = it.each k (omega (arith, below, counts)) in
              (one.0, one.1, one.2 s (led, refl), one.2 t (omega (arith, size, second), sym same));
        }

    pub are_columns : AreColumns rows places leaders columns
    are_columns = record {
      size = size;
      count = count;
      alike = λ s t first second same.
          alike_by_leader (slice_index leaders s) s t (alike s first)
          (subst (λ (n : ℕ). HaveSameCubes rows (places_of places n) (places_of places t)) (sym same) (alike t second));
      shown = both;
    }

-- places kept for the leader of a state are places of the state
pub kept_within : (rows : List KissRow) (places : List (List ℕ)) (leaders : List ℕ) (kept : List (List ℕ)) → length leaders ≡ length places
    → All (λ leader. leader < length places) leaders → ((s : ℕ) → s < length places → HaveSameCubes rows (places_of places (slice_index leaders s)) (places_of places s))
    → AreKept rows places leaders (length places) kept → (s : ℕ) → s < length leaders → (numbers own : List ℕ) → numbers ≡ places_of places s
    → own ≡ places_of kept (slice_index leaders s) → All (λ k. k < length numbers) own
kept_within rows places leaders kept size inside alike known s below numbers own is same k d within =
    let leader = slice_index leaders s in
    let it = known.each leader (inside s 0 below) in
    let among = subst (λ (list : List ℕ). Contains list (get_or own k d)) same (Contains-get_or own k d within) in
    let less : get_or own k d < length (places_of places leader) = it.within (get_or own k d) among in
    let counts = (alike s (omega (arith, size, below))).count in
    omega (arith, less, counts, ap (λ (list : List ℕ). length list) is)
