-- The pairs of a next state and of those that rows of a bundle name.
use Rattle.std.proofs.Common.{◌≡◌, ℕ, ◌<◌, ◌≤◌, ◌^◌, ◌↔◌, ◌⊎◌, Bool, true, false, All, List, length, get_or, Option, None, Some, IfSome, Contains, slice_get, inl, inr, sym, ◌∙◌, subst, refl, arith, ap, bit_and, bit_or}
use Rattle.std.specs.Int.{bit_at, bit_not, w64}
use Rattle.std.proofs.lemmas.Bool.{cases_eq}
use Rattle.std.proofs.lemmas.List.{get_or_default}
use Rattle.std.proofs.lemmas.Nat.{and_le_l}
use Rattle.std.proofs.lemmas.Nat.Bits.{bit_at-lt, bit_at-zero, bit_at_and, bit_at_not}
use Rattle.std.proofs.lemmas.Option.{slice_get_cases}
use Rattle.list_facts.specs.Laws.Everywhere.{all_at}
use Rattle.cubes.specs.declared.cube.Cube.{Cube}
use Rattle.cubes.specs.Cube.{Meets}
use Rattle.kiss_file.specs.declared.file.KissFile.{KissFile}
use Rattle.kiss_file.specs.declared.file.KissRow.{KissRow}
use Rattle.pattern_bundles.specs.Pattern.{IsWithoutMark}
use Rattle.state_rows.specs.declared.bundles.RowBundle.{RowBundle}
use Rattle.state_pairs.specs.AddedPairs.{AddsPairs, AreAddedTo, AreNamedBy, AreNamedIn, AtBundle, BelowCount, IsAddedAt, IsFound, IsListed, IsNamedBeside, pair_of}
use Rattle.state_rows.specs.Bundles.{NamesNoOther, IsBundle, IsFit, IsInBundles, MarksRows}
use Rattle.state_pairs.specs.MarkedRows.{AreLeft}
use Rattle.state_rows.specs.Columns.{IsAtPlace}
use Rattle.state_rows.specs.Places.{IsNumberOf}
use Rattle.state_pairs.specs.Laws.Asking.{number_of_row}
use Rattle.state_pairs.specs.Laws.AddedPairs.{adds_as, adds_none, lengthens_keeps, lengthens_none, lengthens_then}
use Rattle.state_pairs.proofs.MarkedRows.{left_first, left_less, left_none}
use Rattle.state_rows.specs.Laws.Marks.{none_of_zero}
use Rattle.cubes.specs.Laws.SharedCubes.{first_holds, least_below, meets_from_held, second_holds}
use Rattle.state_pairs.specs.Laws.Sought.{row_of}

-- the states of a pair that two rows name
pub named_states : (states : ℕ) (row other : KissRow) → IfSome row.to (λ t. t < states) → IfSome other.to (λ t. t < states) → (u v : ℕ) → AreNamedBy row other u v
    → (u < states) × (v < states)
named_states states row other first second u v named =
    (subst (λ (o : Option ℕ). IfSome o (λ t. t < states)) named.first first, subst (λ (o : Option ℕ). IfSome o (λ t. t < states)) named.second second)

pub alone_states : (turned : Bool) (states w t u v : ℕ) → w < states → t < states → (u, v) ≡ pair_of turned w t → (u < states) × (v < states)
alone_states false states w t u v first second is =
    (subst (λ (n : ℕ). n < states) (sym (ap (λ (p : ℕ × ℕ). p.0) is)) first, subst (λ (n : ℕ). n < states) (sym (ap (λ (p : ℕ × ℕ). p.1) is)) second)
alone_states true states w t u v first second is =
    (subst (λ (n : ℕ). n < states) (sym (ap (λ (p : ℕ × ℕ). p.0) is)) second, subst (λ (n : ℕ). n < states) (sym (ap (λ (p : ℕ × ℕ). p.1) is)) first)

-- a word without some of its marks is no greater
pub mask_less : (before after gone : ℕ) → after < before → bit_and after (bit_not w64 gone) < before
mask_less before after gone less = omega (arith, less, and_le_l after (bit_not w64 gone))

-- the rows that another word marks are done too
pub left_without : (rows : List KissRow) (numbers : List ℕ) (P Done : KissRow → Type 0) (word gone : ℕ) → length numbers ≤ 64 → gone < 2 ^ 64
    → AreLeft rows numbers P Done word → ((k : ℕ) (row : KissRow) → IsAtPlace rows numbers k row → bit_at gone k ≡ 1 → Done row) → AreLeft rows numbers P Done (bit_and word (bit_not w64 gone))
left_without rows numbers P Done word gone few fits left done = record {
  inside = λ k one.
      let is = bit_at_and word (bit_not w64 gone) k in
      let low = bit_at-lt word k in
      left.inside k (omega (arith, is, one, low));
  each = λ k row at has.
      elim (left.each k row at has) [
        | inr before ↦ inr before
        | inl one ↦
            elim (cases_eq (bit_at gone k) 1) [
              | inl marked ↦ inr (done k row at marked)
              | inr not_marked ↦
                  let is = bit_at_and word (bit_not w64 gone) k in
                  let turned = bit_at_not w64 gone k fits (omega (arith, at.0, few)) in
                  let low = bit_at-lt gone k in
                  inl (omega (arith, is, turned, low, one, not_marked))
            ]
      ];
}

-- ---- one bundle
module _ (rows : List KissRow) (bundle : RowBundle) (cube : Cube) (next : ℕ) (right : IsBundle rows bundle) where
  pub added_first : (word : ℕ) (old : List (ℕ × ℕ)) → MarksRows rows bundle.numbers (λ other. Meets cube other.cube) word → AreAddedTo rows bundle.numbers cube next word old old
  added_first word old marks = record {
    longer = lengthens_none old;
    right = λ u v among. inl among;
    left = left_first rows bundle.numbers (λ other. Meets cube other.cube) (IsListed old next) word marks;
    meet = λ k other at one. (marks.each k other at).0 one;
  }

  -- a row stands at each place
  row_there : (k : ℕ) → k < length bundle.numbers → (other : KissRow) × IsAtPlace rows bundle.numbers k other
  row_there k below =
      elim (slice_get_cases rows (get_or bundle.numbers k 0)).1 [
        | inl found ↦ (found.0, (below, found.2))
        | inr past ↦ absurd (let inside = right.inside k 0 below in omega (arith, inside, past.0))
      ]

  pub added_next : (before k after gone : ℕ) (old now more : List (ℕ × ℕ)) → AreAddedTo rows bundle.numbers cube next before old now → IsWithoutMark before k after
      → bit_at before k ≡ 1 → IsAddedAt rows bundle.numbers next k gone now more → AreAddedTo rows bundle.numbers cube next (bit_and after (bit_not w64 gone)) old more
  added_next before k after gone old now more known without one step =
      let there = row_there k (known.left.inside k one) in
      let other = there.0 in
      let at = there.1 in
      let added = step.added other at in
      record {
        longer = lengthens_then old now more known.longer added.longer;
        right = λ u v among.
            elim ((added.each u v).0 among) [
              | inl earlier ↦ known.right u v earlier
              | inr new ↦ inr (new.0, (k, other, at, known.meet k other at one, new.1))
            ];
        left = left_without rows bundle.numbers (λ r. Meets cube r.cube) (IsListed more next) after gone right.few step.fits
            (left_less rows bundle.numbers (λ r. Meets cube r.cube) (IsListed now next) (IsListed more next) before k after known.left without
            (λ r listed v names. (added.each next v).1 (inl (listed v names)))
            (λ r at_r v names. ((step.added r at_r).each next v).1 (inr (refl, names))))
            step.done;
        meet = λ i r at_r marked.
            let is = bit_at_and after (bit_not w64 gone) i in
            let low = bit_at-lt after i in
            let now_one : bit_at after i ≡ 1 = omega (arith, is, low, marked) in
            elim (cases_eq i k) [
              | inl same ↦ absurd (let none : bit_at after i ≡ 0 = ap (bit_at after) same ∙ without.taken in omega (arith, none, now_one))
              | inr apart ↦ known.meet i r at_r (sym (without.kept i apart) ∙ now_one)
            ];
      }

  pub added_all : (word : ℕ) (old now : List (ℕ × ℕ)) → word ≡ 0 → AreAddedTo rows bundle.numbers cube next word old now → AddsPairs (AreNamedIn rows bundle.numbers cube next) old now
  added_all word old now none known = record { longer = known.longer; each = λ u v. (known.right u v, back u v) } where
    back : (u v : ℕ) → Contains old (u, v) ⊎ AreNamedIn rows bundle.numbers cube next u v → Contains now (u, v)
    back u v (inl before) = lengthens_keeps old now (u, v) known.longer before
    back u v (inr (is, (k, other, at, meets, names))) =
        subst (λ (n : ℕ). Contains now (n, v)) (sym is)
        (left_none rows bundle.numbers (λ r. Meets cube r.cube) (IsListed now next) word none known.left k other at meets v names)

-- ---- one row
module _ (rows : List KissRow) (numbers : List ℕ) (next place : ℕ) (row : KissRow) (at_row : slice_get rows (get_or numbers place 0) ≡ Some row) where
  same_row : (other : KissRow) → IsAtPlace rows numbers place other → other ≡ row
  same_row other at = let both : Some other ≡ Some row = sym at.1 ∙ at_row in cc

  pub added_at_none : (old : List (ℕ × ℕ)) → row.to ≡ None → IsAddedAt rows numbers next place 0 old old
  added_at_none old none = record {
    added = λ other at.
        adds_none (λ u v. (u ≡ next) × (other.to ≡ Some v)) old
        (λ u v both. let names : Some v ≡ None = sym both.1 ∙ ap (λ (r : KissRow). r.to) (same_row other at) ∙ none in cc);
    done = λ k other at one. absurd (none_of_zero k one);
    fits = omega arith;
  }

  pub added_at_some : (found word : ℕ) (old now : List (ℕ × ℕ)) → row.to ≡ Some found → word < 2 ^ 64 → AddsPairs (IsFound (Some (next, found))) old now
      → ((k : ℕ) (other : KissRow) → IsAtPlace rows numbers k other → bit_at word k ≡ 1 → NamesNoOther found other) → IsAddedAt rows numbers next place word old now
  added_at_some found word old now names fits adds no_other = record {
    added = λ other at.
        adds_as (IsFound (Some (next, found))) (λ u v. (u ≡ next) × (other.to ≡ Some v)) old now
        (λ u v. (
          (λ is.
              let pair : (next, found) ≡ (u, v) = cc in (
                sym (ap (λ (p : ℕ × ℕ). p.0) pair),
                ap (λ (r : KissRow). r.to) (same_row other at) ∙ names ∙ ap (λ (p : ℕ × ℕ). Some p.1) pair,
              )),
          (λ both.
              let one : Some found ≡ Some v = sym names ∙ ap (λ (r : KissRow). r.to) (sym (same_row other at)) ∙ both.1 in
              let same : found ≡ v = cc in
              ap (λ (n : ℕ). Some (n, found)) (sym both.0) ∙ ap (λ (n : ℕ). Some (u, n)) same),
        )) adds;
    done = λ k other at one v told.
        let is = no_other k other at one v told in
        subst (λ (n : ℕ). Contains now (next, n)) (sym is) ((adds.each next found).1 (inr refl));
    fits = fits;
  }

  -- the same with no mark
  pub added_unmarked : (found : ℕ) (old now : List (ℕ × ℕ)) → row.to ≡ Some found → AddsPairs (IsFound (Some (next, found))) old now → IsAddedAt rows numbers next place 0 old now
  added_unmarked found old now names adds =
      added_at_some found 0 old now names (omega arith) adds (λ k other at one. absurd (let none = bit_at-zero k in omega (arith, none, one)))

-- ---- the bundles of a state
pub fit_among : (F : KissFile) (row : KissRow) → row.cube.width ≡ F.inputs → All (IsFit F.inputs) F.rows → (other : KissRow) → Contains F.rows other → row.cube.width ≡ other.cube.width
fit_among F row width fit other among = width ∙ sym (all_at (IsFit F.inputs) F.rows among.0 other fit (number_of_row F other among)).cube_width

pub at_this_bundle : (rows : List KissRow) (bundles : List RowBundle) (cube : Cube) (next i : ℕ) (bundle : RowBundle) → bundle ≡ get_or bundles i bundle → i < length bundles
    → (u v : ℕ) → AreNamedIn rows bundle.numbers cube next u v ↔ AtBundle rows bundles cube next i u v
at_this_bundle rows bundles cube next i bundle here within u v = ((λ named. (bundle, sym here, named)), back) where
  back : AtBundle rows bundles cube next i u v → AreNamedIn rows bundle.numbers cube next u v
  back (other, is, named) =
      let same : other ≡ bundle = sym is ∙ get_or_default bundles i other bundle within ∙ sym here in
      subst (λ (b : RowBundle). AreNamedIn rows b.numbers cube next u v) same named

module _ (F : KissFile) (t : ℕ) (bundles : List RowBundle) (row : KissRow) (next : ℕ) (names : row.to ≡ Some next) (fit : (other : KissRow) → Contains F.rows other → row.cube.width ≡ other.cube.width)
    (own : (i : ℕ) → IsInBundles bundles i → IsNumberOf F t i)
    (each : (i : ℕ) (other : KissRow) → slice_get F.rows i ≡ Some other → other.from ≡ t → IsInBundles bundles i) where
  pub at_some_bundle : (u v : ℕ) → BelowCount (AtBundle F.rows bundles row.cube next) (length bundles) u v ↔ IsNamedBeside F t row u v
  at_some_bundle u v = (there, back) where
    there : BelowCount (AtBundle F.rows bundles row.cube next) (length bundles) u v → IsNamedBeside F t row u v
    there (j, below, (bundle, is, (same, (k, other, at, meets, tells)))) =
        let i = get_or bundle.numbers k 0 in
        let of_state = row_of F t i other (own i (bundle, (j, below, is), (k, at.0, get_or_default bundle.numbers k i 0 at.0))) at.1 in
        let widths = fit other of_state.0 in (
          other,
          of_state,
          record {
            shared = (
              bit_or row.cube.value other.cube.value,
              least_below row.cube other.cube widths,
              first_holds row.cube other.cube widths meets,
              second_holds row.cube other.cube widths meets,
            );
            first = names ∙ ap (λ (n : ℕ). Some n) (sym same);
            second = tells;
          },
        )

    back : IsNamedBeside F t row u v → BelowCount (AtBundle F.rows bundles row.cube next) (length bundles) u v
    back (other, (among, from), named) =
        let at_number = number_of_row F other among in
        let found = each among.0 other at_number from in
        let bundle = found.0 in
        let place = found.1 in
        let numbered = found.2 in
        let one : Some u ≡ Some next = sym named.first ∙ names in
        let same : u ≡ next = cc in
        let shared = named.shared in (
          place.0,
          place.1,
          (
            bundle,
            place.2,
            (
              same,
              (
                numbered.0,
                other,
                (numbered.1, subst (λ (n : ℕ). slice_get F.rows n ≡ Some other) (sym numbered.2 ∙ get_or_default bundle.numbers numbered.0 among.0 0 numbered.1) at_number),
                meets_from_held row.cube other.cube shared.0 (fit other among) shared.2 shared.3,
                named.second,
              ),
            ),
          ),
        )
