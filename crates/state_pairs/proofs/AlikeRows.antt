-- Aligned rows of two states.
use Rattle.std.proofs.Common.{◌≡◌, ℕ, ◌+◌, ◌<◌, Bool, true, false, refl, IsTrue, None, List, length, get_or, Option, Some, slice_get, inl, inr, sym, ◌∙◌, subst, arith, ap}
use Rattle.std.proofs.lemmas.Bool.{cases_lt, false≢true}
use Rattle.std.proofs.lemmas.List.{get_or_default}
use Rattle.std.proofs.lemmas.List.Elements.{Contains-get_or}
use Rattle.cubes.specs.Cube.{HoldsNumber}
use Rattle.cubes.specs.Laws.Ends.{least_held}
use Rattle.kiss_file.specs.declared.file.KissFile.{KissFile}
use Rattle.kiss_file.specs.declared.file.KissRow.{KissRow}
use Rattle.state_pairs.specs.RowLabels.{AllSay, ApartBelow, AreApartAt, HaveOneLabel, MeetsApart, SayApart, SayTwo}
use Rattle.state_rows.specs.Least.{IsMetBy}
use Rattle.state_pairs.specs.AlignedRows.{AreAligned, Represents}
use Rattle.state_rows.specs.Columns.{HaveOneCube}
use Rattle.state_rows.specs.Laws.OneCube.{held_by_like}
use Rattle.state_pairs.specs.Table.{IsTable}
use Rattle.state_pairs.specs.Laws.Labels.{value_of_some}
use Rattle.state_pairs.specs.Laws.Sought.{apart_wanted, at_from_held, row_of, two_of_row}

-- the rows at one more place have what those before it have
pub pair_more : (rows : List KissRow) (first second : List ℕ) (i : ℕ) (P : KissRow → KissRow → Type 0) (row other : KissRow) → i < length first → i < length second
    → slice_get rows (get_or first i 0) ≡ Some row → slice_get rows (get_or second i 0) ≡ Some other → P row other
    → ((k d e : ℕ) (r o : KissRow) → k < i → slice_get rows (get_or first k d) ≡ Some r → slice_get rows (get_or second k e) ≡ Some o → P r o)
    → (k d e : ℕ) (r o : KissRow) → k < i + 1 → slice_get rows (get_or first k d) ≡ Some r → slice_get rows (get_or second k e) ≡ Some o → P r o
pair_more rows first second i P row other inside also at_row at_other has known k d e r o below at_r at_o =
    elim (cases_lt k i) [
      | inl lower ↦ known k d e r o lower at_r at_o
      | inr here ↦
          let at : k ≡ i = omega arith in
          let same_first : get_or first k d ≡ get_or first i 0 = ap (λ (n : ℕ). get_or first n d) at ∙ get_or_default first i d 0 inside in
          let same_second : get_or second k e ≡ get_or second i 0 = ap (λ (n : ℕ). get_or second n e) at ∙ get_or_default second i e 0 also in
          let one_row : Some row ≡ Some r = sym at_row ∙ ap (slice_get rows) (sym same_first) ∙ at_r in
          let one_other : Some other ≡ Some o = sym at_other ∙ ap (slice_get rows) (sym same_second) ∙ at_o in
          let it : row ≡ r = cc in
          let that : other ≡ o = cc in
          subst (λ (a : KissRow). P a o) it (subst (λ (b : KissRow). P row b) that has)
    ]

module _ (said : KissRow → Option ℕ) (a b row other : KissRow) (y : ℕ) (cubes : HaveOneCube a b) (differ : SayApart said a b) where
  -- rows that show two rows are apart at some symbol, and where they are these rows, at each that the first of them holds
  pub apart_shown : (least : Bool) → Represents said least a row → Represents said least b other → HoldsNumber row.cube y
      → (z : ℕ) × AreApartAt said a b z × (IsTrue least → z ≡ y)
  apart_shown true first second held =
      let here : HoldsNumber a.cube y = subst (λ (r : KissRow). HoldsNumber r.cube y) (sym (first.itself refl)) held in
      (y, (record { first = here; second = held_by_like a b y cubes here; differ = differ }), λ _. refl)
  apart_shown false first second held =
      let z = a.cube.value in
      let here : HoldsNumber a.cube z = least_held a.cube in
      (z, (record { first = here; second = held_by_like a b z cubes here; differ = differ }), λ asked. absurd (false≢true asked))

-- what has met a symbol has met one that is the same, where the least is asked for
pub met_moved : (found : Option ℕ) (least : Bool) (z y : ℕ) → (IsTrue least → z ≡ y) → IsMetBy found least z → IsMetBy found least y
met_moved None least z y same met = met
met_moved (Some x) least z y same met = λ asked. omega (arith, met asked, same asked)

module _ (F : KissFile) (table : IsTable F) (said : KissRow → Option ℕ) (one : HaveOneLabel said F) (s t : ℕ) (first second : List ℕ) (least : Bool)
    (aligned : AreAligned F s t first second said least) where
  -- rows that are apart at one place say two labels
  pub two_from_places : (x : ℕ) → ApartBelow said F.rows first second (length first) x → SayTwo said F s t x
  two_from_places x (k, row, other, within, at_row, at_other, apart) =
      let also : k < length second = omega (arith, within, aligned.count) in
      two_of_row F table said s t row (row_of F s (get_or first k 0) row (aligned.own_first (get_or first k 0) (Contains-get_or first k 0 within)) at_row) x
      (other, row_of F t (get_or second k 0) other (aligned.own_second (get_or second k 0) (Contains-get_or second k 0 also)) at_other, apart)

  -- where two labels are said, the rows at one place are apart
  pub met_by_places : AllSay said F.rows second → (found : Option ℕ) → MeetsApart said F.rows first second (length first) found least
      → (y : ℕ) → SayTwo said F s t y → IsMetBy found least y
  met_by_places says found met y two =
      let wanted = apart_wanted F table said s t y two in
      let row = wanted.0 in
      let other = wanted.2.0 in
      let apart = wanted.2.2 in
      let differ = apart.differ in
      let like = aligned.each row wanted.1 in
      let partner = like.0 in
      let shown = like.3 in
      let label = value_of_some (said shown.partner) (says shown.place 0 shown.partner shown.at_second.0 shown.at_second.1) in
      let held = held_by_like row partner y like.2 apart.first in
      let equal = one t y label.0 differ.1
      (partner, at_from_held F table t y partner like.1 held, sym shown.represents_second.label ∙ label.1)
      (other, at_from_held F table t y other wanted.2.1 apart.second, differ.3) in
      let moved = apart_shown said shown.shown shown.partner row partner y shown.cubes
      (differ.0, label.0, shown.represents_first.label ∙ differ.2, label.1, λ is. differ.4 (is ∙ equal)) least shown.represents_first shown.represents_second apart.first in
      met_moved found least moved.0 y moved.2
      (met shown.place 0 0 shown.shown shown.partner shown.at_first.0 shown.at_first.1 shown.at_second.1 moved.0 moved.1)
