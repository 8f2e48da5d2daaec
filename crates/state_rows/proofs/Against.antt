-- The numbers of the rows of one state, and which of them contradict a row.
use Rattle.std.proofs.Common.{◌≡◌, ℕ, ◌+◌, ◌<◌, ◌≤◌, ◌⊎◌, true, List, length, get_or, Option, None, Some, IfNone, IfSome, Contains, All, slice_get, inl, inr, sym, ◌∙◌, subst, refl, arith, ap}
use Rattle.std.specs.Int.{bit_at}
use Rattle.std.proofs.lemmas.Bool.{cases_lt}
use Rattle.std.proofs.lemmas.List.{get_or_default}
use Rattle.std.proofs.lemmas.Option.{get_or_from_slice_get, slice_get_read}
use Rattle.list_facts.specs.Laws.Everywhere.{all_at}
use Rattle.kiss_file.specs.declared.file.KissRow.{KissRow}
use Rattle.pattern_bundles.specs.Pattern.{IsFirstMark}
use Rattle.state_rows.specs.declared.bundles.RowBundle.{RowBundle}
use Rattle.state_rows.specs.Conflict.{AreFirstTwo, ContradictAt, Contradicts}
use Rattle.state_rows.specs.Least.{lesser_of}
use Rattle.state_rows.specs.Bundles.{AreFit, IsComparable, IsFirstAgainst, IsFit, IsInBundles, ListBundles, MarksRows, bundles_of}
use Rattle.state_rows.specs.Places.{ContradictsRow}
use Rattle.state_rows.proofs.RowBundles.{IsInFirst}
use Rattle.state_rows.specs.Laws.Marks.{none_of_zero}
use Rattle.state_rows.specs.Laws.Least.{lesser_has, met_left, met_right}

-- one row stands at a number
pub one_row : (rows : List KissRow) (i : ℕ) (row other : KissRow) → slice_get rows i ≡ Some row → slice_get rows i ≡ Some other → row ≡ other
one_row rows i row other first second = let same : Some row ≡ Some other = sym first ∙ second in cc

-- ---- one bundle
-- a bundle whose first number is at the bound or above it has no number below it
pub first_of_later : (rows : List KissRow) (row : KissRow) (bundle : RowBundle) → IsComparable rows row bundle → (bound first : ℕ)
    → slice_get bundle.numbers 0 ≡ Some first → bound ≤ first → IsFirstAgainst rows (Contains bundle.numbers) bound row None
first_of_later rows row bundle known bound first begins past = record {
  some = tt;
  least = λ i (k, within, here) below contradicts.
      let start : get_or bundle.numbers 0 i ≡ first = get_or_from_slice_get bundle.numbers 0 first i begins in
      elim (cases_lt 0 k) [
        | inl later ↦ absurd (let less = known.right.ascending 0 k i later within in omega (arith, less, here, start, below, past))
        | inr at_start ↦
            absurd (let same : get_or bundle.numbers k i ≡ get_or bundle.numbers 0 i = ap (λ (n : ℕ). get_or bundle.numbers n i) (omega (arith, at_start)) in
            omega (arith, same, here, start, below, past))
      ];
}

module _ (rows : List KissRow) (row : KissRow) (bundle : RowBundle) (known : IsComparable rows row bundle) (word : ℕ)
    (marks : MarksRows rows bundle.numbers (λ other. Contradicts other row) word) where
  -- a number whose row contradicts the row is marked
  pub marked_at : (i : ℕ) (among : Contains bundle.numbers i) → ContradictsRow rows row i → bit_at word among.0 ≡ 1
  marked_at i (k, within, here) (other, at_other, contradicts) =
      (marks.each k other (within, subst (λ (n : ℕ). slice_get rows n ≡ Some other) (sym here ∙ get_or_default bundle.numbers k i 0 within) at_other)).1 contradicts

  -- the row at a mark contradicts the row
  pub contradicts_at : (k d : ℕ) → bit_at word k ≡ 1 → ContradictsRow rows row (get_or bundle.numbers k d)
  contradicts_at k d one =
      let within = marks.no_more k one in
      let number = get_or bundle.numbers k d in
      let found = known.state number (k, within, get_or_default bundle.numbers k number d within) in (
        found.0,
        found.1,
        (marks.each k found.0 (within, subst (λ (n : ℕ). slice_get rows n ≡ Some found.0) (get_or_default bundle.numbers k d 0 within) found.1)).0 one,
      )

  -- no mark stands before the first
  pub not_less : (k d : ℕ) → IsFirstMark word k → (i : ℕ) → Contains bundle.numbers i → ContradictsRow rows row i → get_or bundle.numbers k d ≤ i
  not_less k d first i among contradicts =
      let within = marks.no_more k first.marked in
      let one = marked_at i among contradicts in
      elim (cases_lt among.0 k) [
        | inl before ↦ absurd (let none = first.before among.0 before in omega (arith, one, none))
        | inr from ↦
            elim (cases_lt k among.0) [
              | inl behind ↦
                  let less : get_or bundle.numbers k i < get_or bundle.numbers among.0 i = known.right.ascending k among.0 i behind among.1 in
                  let here : get_or bundle.numbers among.0 i ≡ i = among.2 in
                  let same = get_or_default bundle.numbers k d i within in
                  omega (arith, less, here, same)
              | inr back ↦
                  let at : k ≡ among.0 = omega (arith, from, back) in
                  let here : get_or bundle.numbers among.0 i ≡ i = among.2 in
                  let same = get_or_default bundle.numbers k d i within in
                  let there : get_or bundle.numbers k i ≡ get_or bundle.numbers among.0 i = ap (λ (n : ℕ). get_or bundle.numbers n i) at in
                  omega (arith, here, same, there)
            ]
      ]

  -- with no mark there is none
  pub first_without_mark : (bound : ℕ) → word ≡ 0 → IsFirstAgainst rows (Contains bundle.numbers) bound row None
  first_without_mark bound none = record {
    some = tt;
    least = λ i among below contradicts. absurd (none_of_zero among.0 (subst (λ (n : ℕ). bit_at n among.0 ≡ 1) none (marked_at i among contradicts)));
  }

  -- the number at the first mark, if it is below the bound
  pub first_at_mark : (bound k number : ℕ) (result : Option ℕ) → IsFirstMark word k → number ≡ get_or bundle.numbers k number
      → IfSome result (λ i. (i ≡ number) × (i < bound)) → IfNone result (bound ≤ number) → IsFirstAgainst rows (Contains bundle.numbers) bound row result
  first_at_mark bound k number None first here is past = record {
    some = tt;
    least = λ i among below contradicts. absurd (let less = not_less k number first i among contradicts in omega (arith, less, here, past, below));
  }
  first_at_mark bound k number (Some x) first here is past = record {
    some = subst (ContradictsRow rows row) (sym here ∙ sym is.0) (contradicts_at k number first.marked);
    least = λ i among below contradicts asked. let less = not_less k number first i among contradicts in omega (arith, less, here, is.0);
  }

-- ---- several bundles
pub first_of_none : (rows : List KissRow) (bundles : List RowBundle) (bound : ℕ) (row : KissRow) → IsFirstAgainst rows (IsInFirst bundles 0) bound row None
first_of_none rows bundles bound row = record { some = tt; least = λ i among below contradicts. absurd (omega (arith, among.1)) }

-- one bundle more
pub first_of_more : (rows : List KissRow) (bundles : List RowBundle) (place bound : ℕ) (row : KissRow) (bundle : RowBundle) (found other result : Option ℕ)
    → result ≡ lesser_of found other → bundle ≡ get_or bundles place bundle → place < length bundles
    → IsFirstAgainst rows (IsInFirst bundles place) bound row found → IsFirstAgainst rows (Contains bundle.numbers) bound row other
    → IsFirstAgainst rows (IsInFirst bundles (place + 1)) bound row result
first_of_more rows bundles place bound row bundle found other result is here within known now =
    subst (IsFirstAgainst rows (IsInFirst bundles (place + 1)) bound row) (sym is)
    (record {
      some = lesser_has (ContradictsRow rows row) found other known.some now.some;
      least = λ i among below contradicts.
          elim (cases_lt among.0 place) [
            | inl before ↦ met_left found other true i (known.least i (among.0, before, among.2, among.3, among.4) below contradicts)
            | inr last ↦
                let at : among.0 ≡ place = omega (arith, last, among.1) in
                let same : among.2 ≡ bundle =
                sym among.3 ∙ ap (λ (k : ℕ). get_or bundles k among.2) at ∙ get_or_default bundles place among.2 bundle within ∙ sym here in
                met_right found other true i (now.least i (subst (λ (b : RowBundle). Contains b.numbers i) same among.4) below contradicts)
          ];
    })

-- with all bundles searched, each number in them was
pub first_of_all : (rows : List KissRow) (bundles : List RowBundle) (place bound : ℕ) (row : KissRow) (found : Option ℕ) → length bundles ≤ place
    → IsFirstAgainst rows (IsInFirst bundles place) bound row found → IsFirstAgainst rows (IsInBundles bundles) bound row found
first_of_all rows bundles place bound row found all known = record {
  some = known.some;
  least = λ i (bundle, (k, within, is), own) below contradicts. known.least i (k, omega (arith, within, all), bundle, is, own) below contradicts;
}

module _ (rows : List KissRow) (bundles : List (List RowBundle)) (stand : ListBundles rows (length bundles) bundles) where
  -- the bundles of the state of a row can be compared with it
  pub comparable : AreFit rows → (number : ℕ) (row : KissRow) → slice_get rows number ≡ Some row
      → (bundle : RowBundle) → Contains (bundles_of bundles row.from) bundle → IsComparable rows row bundle
  comparable (width, fit) number row at_row bundle among =
      let own = all_at (IsFit width) rows number row fit at_row in
      record {
        right = stand.right row.from bundle among;
        state = λ i within. stand.own row.from i (bundle, among, within);
        fit = subst (λ (w : ℕ). All (IsFit w) rows) (sym own.cube_width) fit;
        row_fit = subst (λ (w : ℕ). IsFit w row) (sym own.cube_width) own;
      }

  -- a row that stands before another of its state and contradicts it is in a bundle of that state
  pub earlier_among : (i j : ℕ) (row : KissRow) → i < j → slice_get rows j ≡ Some row → ContradictAt rows i j
      → IsInBundles (bundles_of bundles row.from) i × ContradictsRow rows row i
  earlier_among i j row before at_j (earlier, later, at_i, at_later, contradicts) =
      let same = one_row rows j later row at_later at_j in
      let there : Contradicts earlier row = subst (λ (r : KissRow). Contradicts earlier r) same contradicts in (
        subst (λ (s : ℕ). IsInBundles (bundles_of bundles s) i) there.state (stand.each i earlier at_i),
        (earlier, at_i, there),
      )

  -- the first row that contradicts an earlier one, and the first that it contradicts
  pub first_two : (i j : ℕ) (row : KissRow) → i < j → slice_get rows j ≡ Some row → IsFirstAgainst rows (IsInBundles (bundles_of bundles row.from)) j row (Some i)
      → ((k l : ℕ) → k < l → l < j → ContradictAt rows k l → ⊥)
      → AreFirstTwo rows i j
  first_two i j row before at_j first none_before = record {
    order = before;
    contradict = (first.some.0, row, first.some.1, at_j, first.some.2);
    first = least_of;
  }
    where
      least_of : (k l : ℕ) → k < l → ContradictAt rows k l → (j < l) ⊎ ((j ≡ l) × (i ≤ k))
      least_of k l order pair =
          elim (cases_lt l j) [
            | inl lower ↦ absurd (none_before k l order lower pair)
            | inr from ↦
                elim (cases_lt j l) [
                  | inl above ↦ inl above
                  | inr back ↦
                      let same : j ≡ l = omega arith in
                      let earlier : k < j = omega arith in
                      let at_them : ContradictAt rows k j = subst (λ (n : ℕ). ContradictAt rows k n) (sym same) pair in
                      let among = earlier_among k j row earlier at_j at_them in
                      inr (same, first.least k among.0 earlier among.1 refl)
                ]
          ]

-- the row that was read at a number
pub row_at : (rows : List KissRow) (i : ℕ) (row : KissRow) → i < length rows → row ≡ get_or rows i row → slice_get rows i ≡ Some row
row_at rows i row inside is = slice_get_read rows (length rows) i row refl inside is
