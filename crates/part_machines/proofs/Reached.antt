-- Each symbol of the machine of a part is what some state and symbol of the work machine spell on what is read, or at least the
-- field of some cell of the block holds its values.
use Rattle.std.proofs.Common.{◌≡◌, inl, inr, ℕ, zero, suc, ◌+◌, ◌<◌, Bool, All, List, [], ◌∷◌, ◌++◌, None, Option, Some, drop, get_or, length, map, replicate, slice_get, take, refl, sym, ◌∙◌, ap, subst, arith}
use Rattle.std.proofs.lemmas.List.{length-drop, length-replicate, length-take-le, take-append-drop}
use Rattle.std.proofs.lemmas.Option.{slice_get_within}
use Rattle.std.specs.List.{AllZip}
use Rattle.std.specs.List.Sorted.{IsStrictlyIncreasing}
use Rattle.cubes.specs.Field.{Allows}
use Rattle.dependence.specs.declared.sets.ReadSet.{ReadSet}
use Rattle.gate_rows.specs.Columns.{input_of}
use Rattle.kiss_file.specs.declared.file.KissFile.{KissFile}
use Rattle.list_facts.specs.Laws.Places.{item_at}
use Rattle.partition.specs.Partition.{Together}
use Rattle.realise.specs.Rows.{read_values}
use Rattle.state_codes.specs.declared.Codes.{Codes}
use Rattle.part_machines.specs.Cells.{InOneCell, IsCellField, IsLeastOfCell, Shows, values_of}
use Rattle.part_machines.specs.Fields.{HoldsValues, IsFieldOf}
use Rattle.part_machines.specs.Laws.Cells.{cell_has_least, cells_hold, leaves_decided, shows_too}
use Rattle.part_machines.specs.Laws.Fields.{field_too, held_from}
use Rattle.part_machines.specs.PartRows.{characters_at}
use Rattle.part_machines.proofs.Narrowed.{symbol_from}

-- ---- fields of a cell
module _ (p words bits : List ℕ) where
  -- the field of a cell is that of each of its states
  pub cell_field_moved : (s t : ℕ) → InOneCell p words bits s t → (field : List (Option Bool)) → IsCellField p words bits s field → IsCellField p words bits t field
  cell_field_moved s t in_one field is =
      let back : Together p t s = (in_one.0.1, in_one.0.0, sym in_one.0.2) in
      field_too (Shows p words bits s) (Shows p words bits t) (shows_too p words bits s t in_one.0) (shows_too p words bits t s back) (values_of words bits t) field
      (subst (λ (w : List Bool). IsFieldOf (Shows p words bits s) w field) in_one.1 is)

  -- the field of a state holds the state's own values
  pub own_held : (s : ℕ) → s < length p → (field : List (Option Bool)) → IsCellField p words bits s field → HoldsValues field (values_of words bits s)
  own_held s within field is =
      let v : List Bool = values_of words bits s in
      held_from field v is.size
      (λ k b has.
      let below : k < length v = omega (arith, is.size, slice_get_within field k (Some b) has) in
      let own = item_at v k below in
      elim (leaves_decided p words bits s within v k) [
        | inl leaves ↦
            let at : slice_get field k ≡ Some (Some own.0) = is.literal k own.0 own.1 leaves in
            let same : own.0 ≡ b = cc in
            own.1 ∙ ap (λ (d : Bool). Some d) same
        | inr stays ↦
            let at : slice_get field k ≡ Some None = is.dash k below stays in
            absurd (cc)
      ])

-- ---- a symbol with given bits at the inputs that are read
dash_at : (n a : ℕ) → get_or (replicate {A = Option Bool} n None) a None ≡ None
dash_at zero a = refl
dash_at (suc n) zero = refl
dash_at (suc n) (suc a) = dash_at n a

dashes_held : (n : ℕ) (places : List ℕ) (u : List Bool) → length places ≡ length u → AllZip Allows (characters_at (replicate n None) places) u
dashes_held n [] [] size = tt
dashes_held n [] (b ∷ u) size = absurd (omega (arith, size))
dashes_held n (a ∷ places) [] size = absurd (omega (arith, size))
dashes_held n (a ∷ places) (b ∷ u) size =
    (subst (λ (c : Option Bool). Allows c b) (sym (dash_at n a)) tt, dashes_held n places u (omega (arith, size)))

-- ---- symbols of the machine
-- the symbol has the bits of x at the inputs that are read, and then values that the field of a cell of the block holds
pub record IsReached (W : KissFile) (code : Codes) (p : List ℕ) (set : ReadSet) (t : ℕ) (y : List Bool) : Type 0 where
  pub s : ℕ
  pub least : IsLeastOfCell p code.words set.latches s
  pub block : get_or p s 0 ≡ t
  pub x : List Bool
  pub long : length x ≡ W.inputs
  pub values : List Bool
  pub read : map (input_of x) set.inputs ++ values ≡ y
  pub held : (field : List (Option Bool)) → IsCellField p code.words set.latches s field → HoldsValues field values

module _ (W : KissFile) (code : Codes) (p : List ℕ) (set : ReadSet) (inputs : All (λ a. a < W.inputs) set.inputs) (ascend : IsStrictlyIncreasing set.inputs) where
  -- each symbol of the right length is one
  pub reached : (s : ℕ) → s < length p → (y : List Bool) → length y ≡ length set.inputs + length set.latches → IsReached W code p set (get_or p s 0) y
  reached s within y size =
      let n : ℕ = length set.inputs in
      let u : List Bool = take n y in
      let v : List Bool = drop n y in
      let long_u : length u ≡ n = length-take-le n y (omega (arith, size)) in
      let long_v : length v ≡ length set.latches = omega (arith, length-drop n y, size) in
      let shown = cells_hold p code.words set.latches s within v long_v in
      let cell = cell_has_least p code.words set.latches shown.0 shown.1.1 in
      let dashes : List (Option Bool) = replicate W.inputs None in
      let size_dashes : length dashes ≡ W.inputs = length-replicate {A = Option Bool} W.inputs None in
      let low : All (λ a. a < length dashes) set.inputs = subst (λ (m : ℕ). All (λ a. a < m) set.inputs) (sym size_dashes) inputs in
      let symbol = symbol_from dashes set.inputs u low ascend (dashes_held W.inputs set.inputs u (sym long_u)) in
      record {
        s = cell.0;
        least = cell.1;
        block = cell.2.0.2 ∙ sym shown.1.2;
        x = symbol.0;
        long = symbol.1 ∙ size_dashes;
        values = v;
        read = ap (λ (w : List Bool). w ++ v) symbol.3 ∙ take-append-drop n y;
        held = λ field is. shown.2 field (cell_field_moved p code.words set.latches cell.0 shown.0 cell.2 field is);
      }

-- what a state and a symbol spell is one, by the least state of the cell and the same symbol
pub record IsStep (W : KissFile) (code : Codes) (p : List ℕ) (set : ReadSet) (s : ℕ) (x : List Bool) : Type 0 where
  pub at : IsReached W code p set (get_or p s 0) (read_values code.words set s x)
  pub together : Together p at.s s
  pub same_read : read_values code.words set at.s at.x ≡ read_values code.words set s x

pub step : (W : KissFile) (code : Codes) (p : List ℕ) (set : ReadSet) (s : ℕ) → s < length p → (x : List Bool) → length x ≡ W.inputs → IsStep W code p set s x
step W code p set s within x long =
    let cell = cell_has_least p code.words set.latches s within in
    record {
      at = record {
        s = cell.0;
        least = cell.1;
        block = cell.2.0.2;
        x = x;
        long = long;
        values = values_of code.words set.latches s;
        read = refl;
        held = λ field is. own_held p code.words set.latches s within field (cell_field_moved p code.words set.latches cell.0 s cell.2 field is);
      };
      together = cell.2.0;
      same_read = ap (λ (v : List Bool). map (input_of x) set.inputs ++ v) cell.2.1;
    }
