-- The rows at a state and a symbol, found among the numbers of the state's rows.
use Rattle.std.proofs.Common.{◌≡◌, ℕ, ◌+◌, ◌<◌, List, length, get_or, Some, Contains, slice_get, inl, inr, sym, ◌∙◌, subst, refl, arith, ap}
use Rattle.std.proofs.lemmas.Bool.{cases_lt}
use Rattle.std.proofs.lemmas.Option.{slice_get_within, get_or_from_slice_get, slice_get_read}
use Rattle.std.proofs.lemmas.List.{get_or_default}
use Rattle.cubes.specs.Cube.{Holds, HoldsNumber}
use Rattle.cubes.specs.Symbol.{symbol_of}
use Rattle.kiss_file.specs.declared.file.KissFile.{KissFile}
use Rattle.kiss_file.specs.declared.file.KissRow.{KissRow}
use Rattle.kiss_file.specs.LawfulFile.{IsLawfulRow}
use Rattle.kiss_file.specs.Machine.{IsRowAt}
use Rattle.state_rows.specs.Places.{IsNumberOf}
use Rattle.state_pairs.specs.Table.{IsTable}

-- a row that stands at a number is lawful
pub lawful_row : (F : KissFile) → IsTable F → (i : ℕ) (row : KissRow) → slice_get F.rows i ≡ Some row → IsLawfulRow F.inputs F.outputs (length F.states) row
lawful_row F table i row at_i =
    subst (IsLawfulRow F.inputs F.outputs (length F.states)) (get_or_from_slice_get F.rows i row row at_i)
    (table.rows i row (slice_get_within F.rows i row at_i))

-- a row among those of a file stands at a number
pub number_of_row : (F : KissFile) (row : KissRow) → (among : Contains F.rows row) → slice_get F.rows among.0 ≡ Some row
number_of_row F row (k, inside, is) = slice_get_read F.rows (length F.rows) k row refl inside (sym is)

module _ (F : KissFile) (table : IsTable F) (s x : ℕ) where
  pub is_row_at : (i : ℕ) (row : KissRow) → IsNumberOf F s i → slice_get F.rows i ≡ Some row → HoldsNumber row.cube x → IsRowAt F s (symbol_of F.inputs x) row
  is_row_at i row (found, at_found, from) at_i held =
      let same : found ≡ row = (let both : Some found ≡ Some row = sym at_found ∙ at_i in cc) in
      record {
        among = (i, slice_get_within F.rows i row at_i, get_or_from_slice_get F.rows i row row at_i);
        from = ap (λ (r : KissRow). r.from) (sym same) ∙ from;
        held = subst (λ (w : ℕ). Holds row.cube (symbol_of w x)) ((lawful_row F table i row at_i).width) held;
      }

  -- what holds of each row of the numbers that holds the symbol holds of each row there
  pub of_each_row : (numbers : List ℕ) (P : KissRow → Type 0)
      → ((i : ℕ) (row : KissRow) → slice_get F.rows i ≡ Some row → row.from ≡ s → Contains numbers i)
      → ((k d : ℕ) (row : KissRow) → k < length numbers → slice_get F.rows (get_or numbers k d) ≡ Some row → HoldsNumber row.cube x → P row)
      → (row : KissRow) → IsRowAt F s (symbol_of F.inputs x) row → P row
  of_each_row numbers P each known row at =
      let at_number = number_of_row F row at.among in
      let place = each at.among.0 row at_number at.from in
      let held : HoldsNumber row.cube x =
      subst (λ (w : ℕ). Holds row.cube (symbol_of w x)) (sym ((lawful_row F table at.among.0 row at_number).width)) at.held in
      known place.0 at.among.0 row place.1 (subst (λ (n : ℕ). slice_get F.rows n ≡ Some row) (sym place.2) at_number) held

-- one more number of a list was looked at
pub looked_at : (rows : List KissRow) (numbers : List ℕ) (place : ℕ) (P : KissRow → Type 0) (found : KissRow)
    → ((k d : ℕ) (row : KissRow) → k < place → slice_get rows (get_or numbers k d) ≡ Some row → P row)
    → place < length numbers → slice_get rows (get_or numbers place 0) ≡ Some found → P found
    → (k d : ℕ) (row : KissRow) → k < place + 1 → slice_get rows (get_or numbers k d) ≡ Some row → P row
looked_at rows numbers place P found known inside at_found holds k d row before at_row =
    elim (cases_lt k place) [
      | inl earlier ↦ known k d row earlier at_row
      | inr now ↦
          let at : k ≡ place = omega arith in
          let same : get_or numbers k d ≡ get_or numbers place 0 = ap (λ (i : ℕ). get_or numbers i d) at ∙ get_or_default numbers place d 0 inside in
          let both : Some found ≡ Some row = sym at_found ∙ ap (slice_get rows) (sym same) ∙ at_row in
          let it : found ≡ row = cc in
          subst P it holds
    ]
