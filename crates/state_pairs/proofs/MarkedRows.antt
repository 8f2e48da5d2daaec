-- Rows of a bundle that are asked one after another, as a word marks them.
use Rattle.std.proofs.Common.{◌≡◌, ℕ, ◌+◌, ◌<◌, ◌≤◌, ◌^◌, Bool, true, List, All, length, get_or, Option, None, Some, IfSome, Contains, slice_get, inl, inr, sym, ◌∙◌, subst, arith, ap}
use Rattle.std.specs.Int.{bit_at}
use Rattle.std.proofs.lemmas.Bool.{cases_eq, cases_lt}
use Rattle.std.proofs.lemmas.List.{get_or_default}
use Rattle.list_facts.specs.Laws.Everywhere.{all_at}
use Rattle.cubes.specs.Cube.{Meets}
use Rattle.kiss_file.specs.declared.file.KissFile.{KissFile}
use Rattle.kiss_file.specs.declared.file.KissRow.{KissRow}
use Rattle.pattern_bundles.specs.Pattern.{IsWithoutMark}
use Rattle.state_rows.specs.declared.bundles.RowBundle.{RowBundle}
use Rattle.state_pairs.specs.RowLabels.{AreApartAt, IsApartAt, IsOfState}
use Rattle.state_rows.specs.Least.{IsMetBy, lesser_of}
use Rattle.state_pairs.specs.MarkedRows.{AreLeft, IsApartIn, IsSearchedIn, IsSearchedTo, MeetsEach}
use Rattle.state_rows.specs.Bundles.{IsFit, IsInBundles, MarksRows}
use Rattle.state_rows.specs.Columns.{IsAtPlace}
use Rattle.state_rows.specs.Places.{IsNumberOf}
use Rattle.state_pairs.specs.Laws.Asking.{number_of_row}
use Rattle.state_rows.specs.Laws.Marks.{none_of_zero}
use Rattle.cubes.specs.Laws.SharedCubes.{meets_from_held}
use Rattle.state_rows.specs.Laws.Least.{if_some_map, lesser_has, met_least, met_left, met_right}
use Rattle.state_pairs.specs.Laws.Sought.{row_of}

module _ (rows : List KissRow) (numbers : List ℕ) (P : KissRow → Type 0) where
  -- at first all marked rows are left
  pub left_first : (Done : KissRow → Type 0) (word : ℕ) → MarksRows rows numbers P word → AreLeft rows numbers P Done word
  left_first Done word marks = record {
    inside = marks.no_more;
    each = λ k row at has. inl ((marks.each k row at).1 has);
  }

  -- one mark is taken out, and its row is done
  pub left_less : (Done More : KissRow → Type 0) (before k after : ℕ) → AreLeft rows numbers P Done before → IsWithoutMark before k after
      → ((row : KissRow) → Done row → More row) → ((row : KissRow) → IsAtPlace rows numbers k row → More row) → AreLeft rows numbers P More after
  left_less Done More before k after left without kept now = record {
    inside = λ i one.
        elim (cases_eq i k) [
          | inl same ↦
              let none : bit_at after i ≡ 0 = ap (bit_at after) same ∙ without.taken in
              absurd (omega (arith, none, one))
          | inr other ↦ left.inside i (sym (without.kept i other) ∙ one)
        ];
    each = λ i row at has.
        elim (cases_eq i k) [
          | inl same ↦ inr (now row (subst (λ (n : ℕ). IsAtPlace rows numbers n row) same at))
          | inr other ↦
              elim (left.each i row at has) [
                | inl one ↦ inl (without.kept i other ∙ one)
                | inr done ↦ inr (kept row done)
              ]
        ];
  }

  -- with no mark left, all rows are done
  pub left_none : (Done : KissRow → Type 0) (word : ℕ) → word ≡ 0 → AreLeft rows numbers P Done word → (k : ℕ) (row : KissRow) → IsAtPlace rows numbers k row → P row → Done row
  left_none Done word none left k row at has =
      elim (left.each k row at has) [
        | inl one ↦ absurd (none_of_zero k (subst (λ (n : ℕ). bit_at n k ≡ 1) none one))
        | inr done ↦ done
      ]

module _ (said : KissRow → Option ℕ) (F : KissFile) (numbers : List ℕ) (row : KissRow) (least : Bool) where
  pub searched_first : (word : ℕ) → MarksRows F.rows numbers (λ other. Meets row.cube other.cube) word → IsSearchedTo said F numbers row least word None
  searched_first word marks = record {
    some = tt;
    within = tt;
    left = left_first F.rows numbers (λ other. Meets row.cube other.cube) (MeetsEach said row None least) word marks;
  }

  pub searched_next : (before k after : ℕ) (found more result : Option ℕ) (other : KissRow) → IsSearchedTo said F numbers row least before found
      → IsWithoutMark before k after → bit_at before k ≡ 1 → slice_get F.rows (get_or numbers k 0) ≡ Some other → result ≡ lesser_of found more
      → IfSome more (AreApartAt said row other) → IfSome more (λ x. x < 2 ^ F.inputs) → ((y : ℕ) → AreApartAt said row other y → IsMetBy more true y)
      → IsSearchedTo said F numbers row least after result
  searched_next before k after found more result other known without one at_other is some within met =
      subst (IsSearchedTo said F numbers row least after) (sym is)
      (record {
        some = lesser_has (IsApartIn said F.rows numbers row) found more known.some
            (if_some_map (AreApartAt said row other) (IsApartIn said F.rows numbers row) more (λ x apart. (k, other, (known.left.inside k one, at_other), apart)) some);
        within = lesser_has (λ x. x < 2 ^ F.inputs) found more known.within within;
        left = left_less F.rows numbers (λ other. Meets row.cube other.cube) (MeetsEach said row found least) (MeetsEach said row (lesser_of found more) least)
            before k after known.left without
            (λ r done y apart. met_left found more least y (done y apart))
            (λ r at y apart.
            let both : Some other ≡ Some r = sym at_other ∙ at.1 in
            let same : r ≡ other = cc in
            met_right found more least y (met_least more least y (met y (subst (λ (q : KissRow). AreApartAt said row q y) same apart))));
      })

  pub searched_in : (widths : All (IsFit row.cube.width) F.rows) (word : ℕ) (found : Option ℕ) → word ≡ 0 → IsSearchedTo said F numbers row least word found → IsSearchedIn said F numbers row least found
  searched_in widths word found none known = record {
    some = known.some;
    within = known.within;
    met = λ k other at y apart.
        left_none F.rows numbers (λ other. Meets row.cube other.cube) (MeetsEach said row found least) word none known.left k other at
        (meets_from_held row.cube other.cube y (sym (all_at (IsFit row.cube.width) F.rows (get_or numbers k 0) other widths at.1).cube_width) apart.first apart.second) y apart;
  }

-- ---- the rows of a state in its bundles
-- what was found in a bundle is found at a row of the state
pub apart_of_state : (said : KissRow → Option ℕ) (F : KissFile) (t : ℕ) (bundles : List RowBundle) (bundle : RowBundle) (row : KissRow)
    → ((i : ℕ) → IsInBundles bundles i → IsNumberOf F t i) → Contains bundles bundle → (x : ℕ) → IsApartIn said F.rows bundle.numbers row x → IsApartAt said F t row x
apart_of_state said F t bundles bundle row own among x (k, other, at, apart) =
    let i = get_or bundle.numbers k 0 in
    (other, row_of F t i other (own i (bundle, among, (k, at.0, get_or_default bundle.numbers k i 0 at.0))) at.1, apart)

-- the rows of the first bundles were asked
abbrev pub MeetsFirst : List KissRow → List RowBundle → (count : ℕ) → (KissRow → Type 0) → Type 0
MeetsFirst rows bundles count Done =
    (j : ℕ) (bundle : RowBundle) (k : ℕ) (row : KissRow) → j < count → get_or bundles j bundle ≡ bundle → IsAtPlace rows bundle.numbers k row → Done row

-- a search over the rows of the first bundles of a state
pub record IsSearchedOver (said : KissRow → Option ℕ) (F : KissFile) (t : ℕ) (bundles : List RowBundle) (count : ℕ) (row : KissRow) (least : Bool) (found : Option ℕ) : Type 0 where
  pub some : IfSome found (IsApartAt said F t row)
  pub within : IfSome found (λ x. x < 2 ^ F.inputs)
  pub met : MeetsFirst F.rows bundles count (MeetsEach said row found least)

pub meets_first_more : (rows : List KissRow) (bundles : List RowBundle) (place : ℕ) (bundle : RowBundle) (Done More : KissRow → Type 0) → bundle ≡ get_or bundles place bundle
    → place < length bundles → MeetsFirst rows bundles place Done → ((row : KissRow) → Done row → More row)
    → ((k : ℕ) (row : KissRow) → IsAtPlace rows bundle.numbers k row → More row) → MeetsFirst rows bundles (place + 1) More
meets_first_more rows bundles place bundle Done More here within known kept now j other k row below is at =
    elim (cases_lt j place) [
      | inl before ↦ kept row (known j other k row before is at)
      | inr last ↦
          let same_place : j ≡ place = omega (arith, below, last) in
          let same : other ≡ bundle =
          sym is ∙ ap (λ (n : ℕ). get_or bundles n other) same_place ∙ get_or_default bundles place other bundle within ∙ sym here in
          now k row (subst (λ (b : RowBundle). IsAtPlace rows b.numbers k row) same at)
    ]

-- with all bundles of a state asked, each row of the state was
pub meets_each_row : (F : KissFile) (t : ℕ) (bundles : List RowBundle) (count : ℕ) (Done : KissRow → Type 0)
    → ((i : ℕ) (row : KissRow) → slice_get F.rows i ≡ Some row → row.from ≡ t → IsInBundles bundles i)
    → length bundles ≤ count → MeetsFirst F.rows bundles count Done → (row : KissRow) → IsOfState F t row → Done row
meets_each_row F t bundles count Done each all known row (among, from) =
    let at_number = number_of_row F row among in
    let found = each among.0 row at_number from in
    let bundle = found.0 in
    let place = found.1 in
    let own = found.2 in
    known place.0 bundle own.0 row (omega (arith, place.1, all)) place.2
    (own.1, subst (λ (n : ℕ). slice_get F.rows n ≡ Some row) (sym own.2 ∙ get_or_default bundle.numbers own.0 among.0 0 own.1) at_number)
