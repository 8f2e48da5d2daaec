-- What the rows of a state show is what matters at the state.
use Rattle.std.proofs.Common.{◌≡◌, ◌≢◌, ◌∙◌, ℕ, ◌+◌, ◌-◌, ◌^◌, ◌<◌, ◌≤◌, All, Bool, Contains, List, Some, length, inl, inr, sym, subst, arith}
use Rattle.std.proofs.lemmas.Bool.{cases_lt}
use Rattle.std.proofs.lemmas.List.Elements.{All-contains}
use Rattle.std.proofs.lemmas.Option.{slice_get_past}
use Rattle.cubes.specs.Symbol.{number_of, symbol_of}
use Rattle.cubes.specs.Cube.{Holds, HoldsNumber, Meets}
use Rattle.cubes.specs.Laws.Held.{agrees_from_held, held_from_agrees}
use Rattle.cubes.specs.Laws.Meeting.{length_of_held, meets_from_clash}
use Rattle.cubes.specs.Laws.Numbers.{length-symbol_of, number_below, symbol_of-number_of}
use Rattle.kiss_file.specs.declared.file.KissFile.{KissFile}
use Rattle.kiss_file.specs.declared.file.KissRow.{KissRow}
use Rattle.machine_table.specs.declared.open_part.Missing.{Missing}
use Rattle.machine_table.specs.Pieces.{IsRightRow, IsSaidBy}
use Rattle.machine_table.specs.OpenEntries.{place_of}
use Rattle.dependence.specs.declared.bit.Bit.{Bit}
use Rattle.dependence.specs.Inputs.{DifferAlone}
use Rattle.dependence.specs.Bit.{IsBit, value_of}
use Rattle.dependence.specs.Effects.{MattersAt}
use Rattle.dependence.specs.Inner.Effects.{Show, ShowAcross}
use Rattle.dependence.specs.RowBits.{row_value}
use Rattle.dependence.specs.Laws.Said.{part_counted, part_of, row_gives, says_value}
use Rattle.dependence.proofs.Symbols.{clash_of-differing, differ_alone, parted}

module _ (F : KissFile) (words : List ℕ) (gate : Bit) (of_gate : IsBit F gate) (s : ℕ) where
  -- at each symbol
  gives_at : (row : KissRow) → IsRightRow F s row → (v : Bool) → row_value words gate row ≡ Some v → (x : List Bool) → length x ≡ F.inputs → Holds row.cube x → value_of F words gate s x ≡ v
  gives_at row is v says x size held =
      let written : symbol_of F.inputs (number_of x) ≡ x = subst (λ (k : ℕ). symbol_of k (number_of x) ≡ x) size (symbol_of-number_of x) in
      let below : number_of x < 2 ^ F.inputs = subst (λ (k : ℕ). number_of x < 2 ^ k) size (number_below x) in
      let number : HoldsNumber row.cube (number_of x) = subst (λ (k : ℕ). Holds row.cube (symbol_of k (number_of x))) (sym is.lawful.width) (subst (Holds row.cube) (sym written) held) in
      subst (λ (y : List Bool). value_of F words gate s y ≡ v) written (row_gives F words gate s (number_of x) row v is below number says)

  -- two rows that show it
  shown_matters : (one other : KissRow) (a : ℕ) → IsRightRow F s one → IsRightRow F s other → Show F.inputs words one other a gate → MattersAt F (value_of F words gate) s a
  shown_matters one other a of_one of_other show =
      let two = parted one.cube other.cube show.differ.place show.differ.clash in
      let few : F.inputs ≤ 64 = omega (arith, of_one.lawful.width, one.cube.width_bound) in
      let first : Holds one.cube (symbol_of F.inputs two.x) = subst (λ (k : ℕ). Holds one.cube (symbol_of k two.x)) of_one.lawful.width (held_from_agrees one.cube two.x two.first) in
      let second : Holds other.cube (symbol_of F.inputs two.y) = subst (λ (k : ℕ). Holds other.cube (symbol_of k two.y)) of_other.lawful.width (held_from_agrees other.cube two.y two.second) in
      let v = show.values.0 in
      let w = show.values.1 in
      record {
        x = symbol_of F.inputs two.x;
        y = symbol_of F.inputs two.y;
        symbol = length-symbol_of F.inputs two.x;
        differ = differ_alone F.inputs two.x two.y a show.differ.place few show.differ.of_input two.there two.elsewhere;
        values = λ same. show.values.4
            (sym (gives_at one of_one v show.values.2 (symbol_of F.inputs two.x) (length-symbol_of F.inputs two.x) first)
            ∙ same
            ∙ gives_at other of_other w show.values.3 (symbol_of F.inputs two.y) (length-symbol_of F.inputs two.y) second);
      }

  -- rows that say what the gate gives and hold two such symbols show it
  matters_shown : (a : ℕ) (matters : MattersAt F (value_of F words gate) s a) (one other : KissRow) → IsRightRow F s one → IsRightRow F s other → (v w : Bool) → row_value words gate one ≡ Some v → row_value words gate other ≡ Some w
      → HoldsNumber one.cube (number_of matters.x) → HoldsNumber other.cube (number_of matters.y) → Show F.inputs words one other a gate
  matters_shown a matters one other of_one of_other v w says tells first second =
      elim (clash_of-differing one.cube other.cube (number_of matters.x) (number_of matters.y) a (one.cube.width - 1 - a) widths at differ (agrees_from_held one.cube (number_of matters.x) first) (agrees_from_held other.cube (number_of matters.y) second)) [
        | inl none ↦ absurd (apart (met (meets_from_clash one.cube other.cube (sym widths) none)))
        | inr clash ↦ record { differ = record { place = one.cube.width - 1 - a; of_input = at ∙ of_one.lawful.width; clash = clash }; values = (v, w, says, tells, apart) }
      ] where
        y_size : length matters.y ≡ F.inputs
        y_size = sym matters.differ.lengths ∙ matters.symbol

        within : a < F.inputs
        within =
            elim (cases_lt a F.inputs) [
              | inl below ↦ below
              | inr past ↦ absurd (matters.differ.there (slice_get_past matters.x a (omega (arith, past, matters.symbol)) ∙ sym (slice_get_past matters.y a (omega (arith, past, y_size)))))
            ]

        widths : other.cube.width ≡ one.cube.width
        widths = of_other.lawful.width ∙ sym of_one.lawful.width

        at : one.cube.width - 1 - a + a + 1 ≡ one.cube.width
        at = omega (arith, within, of_one.lawful.width)

        written : (x : List Bool) → length x ≡ F.inputs → symbol_of one.cube.width (number_of x) ≡ x
        written x size = subst (λ (k : ℕ). symbol_of k (number_of x) ≡ x) (size ∙ sym of_one.lawful.width) (symbol_of-number_of x)

        differ : DifferAlone a (symbol_of one.cube.width (number_of matters.x)) (symbol_of one.cube.width (number_of matters.y))
        differ =
            subst (λ (x : List Bool). DifferAlone a x (symbol_of one.cube.width (number_of matters.y))) (sym (written matters.x matters.symbol))
            (subst (λ (y : List Bool). DifferAlone a matters.x y) (sym (written matters.y y_size)) matters.differ)

        x_held : Holds one.cube matters.x
        x_held = subst (Holds one.cube) (written matters.x matters.symbol) first

        y_held : Holds other.cube matters.y
        y_held = subst (Holds other.cube) (written matters.y y_size) (subst (λ (k : ℕ). Holds other.cube (symbol_of k (number_of matters.y))) widths second)

        apart : v ≢ w
        apart same = matters.values (gives_at one of_one v says matters.x matters.symbol x_held ∙ same ∙ sym (gives_at other of_other w tells matters.y y_size y_held))

        met : Meets one.cube other.cube → v ≡ w
        met meets =
            let size : length meets.0 ≡ F.inputs = length_of_held one.cube meets.0 meets.1 ∙ of_one.lawful.width in
            sym (gives_at one of_one v says meets.0 size meets.1) ∙ gives_at other of_other w tells meets.0 size meets.2

  module _ (rows : List KissRow) (each : (x : ℕ) (part : Missing) → x < 2 ^ F.inputs → place_of part < F.outputs + 1 → IsSaidBy rows x part) (right : All (IsRightRow F s) rows) where
    of_row : (row : KissRow) → Contains rows row → IsRightRow F s row
    of_row row is = All-contains (IsRightRow F s) rows row right is

    pub across_matters : (a : ℕ) → ShowAcross F.inputs words rows rows a gate → MattersAt F (value_of F words gate) s a
    across_matters a shown =
        shown_matters shown.shown.other shown.row a (of_row shown.shown.other shown.shown.among) (of_row shown.row shown.among) shown.shown.show

    below_inputs : (x : List Bool) → length x ≡ F.inputs → number_of x < 2 ^ F.inputs
    below_inputs x size = subst (λ (k : ℕ). number_of x < 2 ^ k) size (number_below x)

    pub matters_across : (a : ℕ) → MattersAt F (value_of F words gate) s a → ShowAcross F.inputs words rows rows a gate
    matters_across a matters =
        let part = part_of gate in
        let counted = part_counted F gate of_gate in
        let of_x = each (number_of matters.x) part (below_inputs matters.x matters.symbol) counted in
        let of_y = each (number_of matters.y) part (below_inputs matters.y (sym matters.differ.lengths ∙ matters.symbol)) counted in
        let v = says_value words gate of_x.0 of_x.3 in
        let w = says_value words gate of_y.0 of_y.3 in
        record {
          row = of_y.0;
          among = of_y.1;
          shown = record {
            other = of_x.0;
            among = of_x.1;
            show = matters_shown a matters of_x.0 of_y.0 (of_row of_x.0 of_x.1) (of_row of_y.0 of_y.1) v.0 w.0 v.1 w.1 of_x.2 of_y.2;
          };
        }
