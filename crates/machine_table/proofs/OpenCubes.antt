-- The cubes of the rows of a state that say a part.
use Rattle.std.proofs.Common.{◌≡◌, ℕ, ◌+◌, ◌<◌, ◌^◌, ◌↔◌, List, [], ◌∷◌, ◌++◌, length, get_or, All, Contains, Option, Some, None, IfSome, IfNone, IfOk, Result, Ok, Err, slice_get, inl, inr, sym, ◌∙◌, subst, arith, ap}
use Rattle.std.proofs.lemmas.List.Elements.{Contains-append_cases, Contains-append_left, Contains-append_right, Contains-get_or}
use Rattle.list_facts.specs.Laws.Members.{Contains-here, Contains-one}
use Rattle.cubes.specs.declared.cube.Cube.{Cube}
use Rattle.cubes.specs.Cube.{Holds, HoldsNumber}
use Rattle.cubes.specs.Gap.{HoldsEach, IsFirstGap, IsHeld}
use Rattle.cubes.specs.Symbol.{symbol_of}
use Rattle.kiss_file.specs.declared.file.KissFile.{KissFile}
use Rattle.kiss_file.specs.declared.file.KissRow.{KissRow}
use Rattle.machine_table.specs.declared.open_part.Missing.{Missing}
use Rattle.machine_table.specs.OpenEntries.{IsSaid, Says, place_of}
use Rattle.state_pairs.specs.Table.{IsTable}
use Rattle.machine_table.specs.declared.open_part.Missing.TheVariants.{Next, Output}
use Rattle.state_pairs.specs.RowLabels.{IsOfState}
use Rattle.machine_table.specs.Inner.OpenSymbol.{AreCubesOf, AreFullCubes, IsFirstOf, IsFull, IsSaidEverywhere}
use Rattle.state_rows.specs.Places.{IsNumberOf}
use Rattle.state_pairs.specs.Laws.Asking.{is_row_at, lawful_row, looked_at, number_of_row}
use Rattle.state_pairs.specs.Laws.Sought.{at_from_held}

module _ (F : KissFile) (s : ℕ) (part : Missing) (numbers : List ℕ) (count : ℕ) (cubes : List Cube) (row : KissRow)
    (known : AreCubesOf F s part numbers count cubes) (inside : count < length numbers)
    (own : IsNumberOf F s (get_or numbers count 0)) (at_row : slice_get F.rows (get_or numbers count 0) ≡ Some row) where
  -- a row that says the part gives its cube
  pub with_cube : Says part row → AreCubesOf F s part numbers (count + 1) (cubes ++ row.cube ∷ [])
  with_cube says = record {
    own = λ cube among. elim (Contains-append_cases cubes (row.cube ∷ []) cube among) [
      | inl before ↦ known.own cube before
      | inr last ↦ (get_or numbers count 0, row, own, at_row, says, Contains-one row.cube cube last)
    ];
    each = looked_at F.rows numbers count (λ r. Says part r → Contains (cubes ++ row.cube ∷ []) r.cube) row
        (λ k d r before at_r said. Contains-append_left cubes (row.cube ∷ []) r.cube (known.each k d r before at_r said))
        inside at_row (λ _. Contains-append_right cubes (row.cube ∷ []) row.cube (Contains-here row.cube []));
  }

  -- a row that does not say it gives none
  pub without_cube : (Says part row → ⊥) → AreCubesOf F s part numbers (count + 1) cubes
  without_cube silent = record {
    own = known.own;
    each = looked_at F.rows numbers count (λ r. Says part r → Contains cubes r.cube) row known.each inside at_row (λ said. absurd (silent said));
  }

module _ (F : KissFile) (table : IsTable F) (s : ℕ) (part : Missing) (numbers : List ℕ) (cubes : List Cube)
    (known : AreCubesOf F s part numbers (length numbers) cubes)
    (every : (i : ℕ) (row : KissRow) → slice_get F.rows i ≡ Some row → row.from ≡ s → Contains numbers i) where
  -- they are of the width of the inputs
  pub widths_of : All (λ c. c.width ≡ F.inputs) cubes
  widths_of k d within =
      let found = known.own (get_or cubes k d) (Contains-get_or cubes k d within) in
      ap (λ (c : Cube). c.width) (sym found.5) ∙ (lawful_row F table found.0 found.1 found.3).width

  -- a symbol that one of them holds is one at which the part is said
  pub said_from_held : (number : ℕ) → IsHeld cubes number → IsSaid F s number part
  said_from_held number (k, cube, within, is, held) =
      let found = known.own (get_or cubes k cube) (Contains-get_or cubes k cube within) in (
        found.1,
        is_row_at F table s number found.0 found.1 found.2 found.3
            (subst (λ (c : Cube). HoldsNumber c number) (sym (found.5 ∙ is)) held),
        found.4,
      )

  pub held_from_said : (number : ℕ) → IsSaid F s number part → IsHeld cubes number
  held_from_said number (row, at, says) =
      let at_number = number_of_row F row at.among in
      let place = every at.among.0 row at_number at.from in
      let there = known.each place.0 at.among.0 row place.1 (subst (λ (n : ℕ). slice_get F.rows n ≡ Some row) (sym place.2) at_number) says in (
        there.0,
        row.cube,
        there.1,
        there.2,
        subst (λ (w : ℕ). Holds row.cube (symbol_of w number)) (sym ((lawful_row F table at.among.0 row at_number).width)) at.held,
      )

module _ (F : KissFile) (s : ℕ) (part : Missing) (cubes : List Cube) (width : ℕ) (same : width ≡ F.inputs)
    (held : (number : ℕ) → IsHeld cubes number ↔ IsSaid F s number part) where
  -- the first gap of the cubes is the first symbol at which the part is open
  first_of_gap : (found : Option ℕ) → IfSome found (IsFirstGap cubes width) → IfNone found (HoldsEach cubes width) → IsFirstOf F s part found
  first_of_gap None some none = λ number within. (held number).0 (none number (subst (λ (w : ℕ). number < 2 ^ w) (sym same) within))
  first_of_gap (Some number) some none = record {
    within = subst (λ (w : ℕ). number < 2 ^ w) same some.within;
    not_said = λ said. some.without ((held number).1 said);
    least = λ lower below. (held lower).0 (some.least lower below);
  }

  pub first_from_gap : {E : Type 0} (answer : Result (Option ℕ) E) → IfOk answer (λ gap. IfSome gap (IsFirstGap cubes width))
      → IfOk answer (λ gap. IfNone gap (HoldsEach cubes width)) → IfOk answer (IsFirstOf F s part)
  first_from_gap (Ok found) some none = first_of_gap found some none
  first_from_gap (Err wanting) some none = tt

-- what a row says that names a next state and gives each of so many outputs
pub full_says : (outputs : ℕ) (row : KissRow) → IsFull outputs row → (part : Missing) → place_of part < outputs + 1 → Says part row
full_says outputs row full Next counted = full.0
full_says outputs row full (Output b) counted = full.1 b (omega arith)

module _ (F : KissFile) (s : ℕ) (cubes : List Cube) (known : AreFullCubes F s cubes) where
  pub with_full_cube : (row : KissRow) → IsOfState F s row → IsFull F.outputs row → AreFullCubes F s (cubes ++ row.cube ∷ [])
  with_full_cube row of_state full cube among =
      elim (Contains-append_cases cubes (row.cube ∷ []) cube among) [
        | inl before ↦ known cube before
        | inr last ↦ (row, of_state, full, Contains-one row.cube cube last)
      ]

  -- where they hold each symbol, each part is said
  pub said_by_full : IsTable F → (width : ℕ) → width ≡ F.inputs → HoldsEach cubes width → IsSaidEverywhere F s (F.outputs + 1)
  said_by_full table width same each number part within counted =
      let held = each number (subst (λ (w : ℕ). number < 2 ^ w) (sym same) within) in
      let found = of_held held in
      (found.0, at_from_held F table s number found.0 found.1 found.3, full_says F.outputs found.0 found.2 part counted)
    where
      of_held : IsHeld cubes number → (row : KissRow) × IsOfState F s row × IsFull F.outputs row × HoldsNumber row.cube number
      of_held (k, cube, inside, is, held) =
          let row = known (get_or cubes k cube) (Contains-get_or cubes k cube inside) in
          (row.0, row.1, row.2, subst (λ (c : Cube). HoldsNumber c number) (sym (row.3 ∙ is)) held)
