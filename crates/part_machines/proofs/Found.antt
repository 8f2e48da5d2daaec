-- The row that a cell has for a symbol of the work machine: made of a filled row of the cell's least state that holds the
-- symbol.
use Rattle.std.proofs.Common.{◌≡◌, ℕ, ◌+◌, ◌<◌, ◌^◌, Bool, true, All, Contains, List, ◌++◌, Option, filter, length, map, sym, ◌∙◌, ap, subst}
use Rattle.std.proofs.lemmas.List.Elements.{All-contains}
use Rattle.std.specs.List.{AllZip}
use Rattle.cubes.specs.Cube.{Holds, field_of}
use Rattle.cubes.specs.Field.{Allows}
use Rattle.cubes.specs.Symbol.{number_of, symbol_of}
use Rattle.cubes.specs.Laws.Numbers.{number_below, symbol_of-number_of}
use Rattle.cubes.specs.Laws.Places.{length-characters}
use Rattle.dependence.specs.declared.sets.ReadSet.{ReadSet}
use Rattle.gate_rows.specs.Columns.{input_of}
use Rattle.kiss_file.specs.declared.file.KissFile.{KissFile}
use Rattle.kiss_file.specs.declared.file.KissRow.{KissRow}
use Rattle.list_facts.specs.Laws.Members.{Contains-filter}
use Rattle.machine_table.specs.declared.open_part.Missing.{Missing}
use Rattle.machine_table.specs.Pieces.{IsRightRow}
use Rattle.machine_table.specs.OpenEntries.{Says, place_of}
use Rattle.state_codes.specs.declared.Codes.{Codes}
use Rattle.state_codes.specs.declared.which.Which.{Which}
use Rattle.part_machines.specs.Cells.{IsCellField, IsLeastOfCell}
use Rattle.part_machines.specs.Fields.{HoldsValues}
use Rattle.part_machines.specs.PartRows.{AreCellRows, ArePartRows, IsPartRow, characters_at, is_taken, rows_once}
use Rattle.part_machines.proofs.Kept.{HasEqual, joined_among, kept_once, made_too}
use Rattle.part_machines.proofs.MadeRows.{zip_left}
use Rattle.part_machines.proofs.Narrowed.{join_held, narrowed_held}

-- the row is made of a right row of the state that holds the symbol and says the part
pub record IsFound (W : KissFile) (code : Codes) (p : List ℕ) (set : ReadSet) (which : Which) (rows : List KissRow) (s : ℕ) (x values : List Bool) (part : Missing) (row : KissRow) : Type 0 where
  pub among : Contains rows row
  pub field : List (Option Bool)
  pub source : KissRow
  pub right : IsRightRow W s source
  pub says : Says part source
  pub source_held : Holds source.cube x
  pub made : IsPartRow W code p set which s field source row
  pub held : Holds row.cube (map (input_of x) set.inputs ++ values)

module _ (W : KissFile) (code : Codes) (p : List ℕ) (set : ReadSet) (which : Which) (inputs : All (λ a. a < W.inputs) set.inputs) (s : ℕ) (x values : List Bool) (long : length x ≡ W.inputs)
    (held : (field : List (Option Bool)) → IsCellField p code.words set.latches s field → HoldsValues field values)
    (part : Missing) (inside : place_of part < W.outputs + 1) (taken : (row : KissRow) → Says part row → is_taken W.outputs which row ≡ true) where
  -- among the rows of the cell
  pub found_in_cell : (list : List KissRow) → AreCellRows W code p set which s list → (row : KissRow) × IsFound W code p set which list s x values part row
  unfolding Holds
  found_in_cell list own =
      let number : number_of x < 2 ^ W.inputs = subst (λ (k : ℕ). number_of x < 2 ^ k) long (number_below x) in
      let said = own.of_state.each (number_of x) part number inside in
      let source : KissRow = said.0 in
      let right : IsRightRow W s source = All-contains (IsRightRow W s) own.filled source own.of_state.right said.1 in
      let spelled : symbol_of source.cube.width (number_of x) ≡ x =
      ap (λ (k : ℕ). symbol_of k (number_of x)) (right.lawful.width ∙ sym long) ∙ symbol_of-number_of x in
      let source_held : Holds source.cube x = subst (Holds source.cube) spelled said.2 in
      let made = zip_left (IsPartRow W code p set which s own.field) (filter (is_taken W.outputs which) own.filled) own.all own.each source
      (Contains-filter (is_taken W.outputs which) own.filled source said.1 (taken source said.3)) in
      let kept : HasEqual (rows_once own.all) made.0 = kept_once own.all made.0 made.1 in
      let row : KissRow = kept.other in
      let made_row : IsPartRow W code p set which s own.field source row = made_too W code p set which s own.field source made.0 row kept.same made.2 in
      let width : length (field_of source.cube) ≡ W.inputs = length-characters source.cube.width source.cube.care source.cube.value ∙ right.lawful.width in
      let within : All (λ a. a < length (field_of source.cube)) set.inputs = subst (λ (n : ℕ). All (λ a. a < n) set.inputs) (sym width) inputs in (
        row,
        record {
          among = subst (λ (rows : List KissRow). Contains rows row) (sym own.once) kept.among;
          field = own.field;
          source = source;
          right = right;
          says = said.3;
          source_held = source_held;
          made = made_row;
          held =
              subst (λ (f : List (Option Bool)). AllZip Allows f (map (input_of x) set.inputs ++ values)) (sym made_row.input)
              (join_held (characters_at (field_of source.cube) set.inputs) own.field (map (input_of x) set.inputs) values
              (narrowed_held (field_of source.cube) x set.inputs source_held within) (held own.field own.of_cell));
        },
      )

  -- and so among all rows
  pub row_found : (rows : List KissRow) → ArePartRows W code p set which rows → IsLeastOfCell p code.words set.latches s → (row : KissRow) × IsFound W code p set which rows s x values part row
  row_found rows are least =
      let cell = zip_left (AreCellRows W code p set which) are.leasts are.lists are.each s ((are.cells.each s).1 least) in
      let found = found_in_cell cell.0 cell.2 in (
        found.0,
        record {
          among = subst (λ (list : List KissRow). Contains list found.0) (sym are.joined) (joined_among are.lists cell.0 found.0 cell.1 found.1.among);
          field = found.1.field;
          source = found.1.source;
          right = found.1.right;
          says = found.1.says;
          source_held = found.1.source_held;
          made = found.1.made;
          held = found.1.held;
        },
      )
