-- What filled rows ask of the gate of a bit is what the gate gives.
use Rattle.std.proofs.Common.{◌≡◌, ℕ, ◌^◌, ◌<◌, ◌≤◌, Bool, true, false, Some, List, [], ◌∷◌, ◌++◌, get_or, slice_index, All, Contains, refl, ap, sym, ◌∙◌, subst, arith}
use Rattle.std.specs.List.{cons_option, filter_map}
use Rattle.std.specs.Option.{option_map}
use Rattle.std.proofs.lemmas.Bool.{false≢true}
use Rattle.std.proofs.lemmas.List.Elements.{Contains-get_or, filter_map-append}
use Rattle.list_facts.specs.Laws.Members.{Contains-filter_map, Contains-from_filter_map}
use Rattle.list_facts.specs.Laws.Places.{ascending_count}
use Rattle.cubes.specs.declared.cube.Cube.{Cube}
use Rattle.cubes.specs.Symbol.{number_of, symbol_of}
use Rattle.cubes.specs.Laws.Numbers.{length-symbol_of, number_below, symbol_of-number_of}
use Rattle.dependence.specs.declared.bit.Bit.{Bit}
use Rattle.dependence.specs.declared.sets.ReadSet.{ReadSet}
use Rattle.dependence.specs.Bit.{IsBit, value_of}
use Rattle.dependence.specs.RowBits.{row_value}
use Rattle.dependence.specs.Laws.Said.{mapped, part_counted, part_of, row_gives, says_value}
use Rattle.gate_rows.specs.declared.demands.Demand.{Demand}
use Rattle.gate_rows.specs.Columns.{IsReadIn}
use Rattle.gate_rows.specs.GateCovers.{IsGoodCover}
use Rattle.gate_rows.specs.Demands.{NeverContradict, CanBeRead, IsAsked, demand_at}
use Rattle.gate_rows.specs.Laws.TermCovers.{same_cover}
use Rattle.kiss_file.specs.declared.file.KissFile.{KissFile}
use Rattle.kiss_file.specs.declared.file.KissRow.{KissRow}
use Rattle.realise.specs.CodeNetwork.{IsEnough, IsWithin}
use Rattle.realise.specs.Rows.{GivesAt, read_values}
use Rattle.realise.specs.Inner.Lists.{asked_by, width_of}
use Rattle.realise.specs.Inner.FilledRows.{AreFilled, IsRight}
use Rattle.realise.proofs.EqualReads.{equal_reads}

-- what is asked by one row more
pub asked_more : (words : List ℕ) (bit : Bit) (rows more : List KissRow) (row : KissRow) (old new added : List Demand) → more ≡ rows ++ row ∷ [] → old ≡ filter_map (asked_by words bit) rows → new ≡ old ++ added
    → cons_option (asked_by words bit row) [] ≡ added → new ≡ filter_map (asked_by words bit) more
asked_more words bit rows more row old new added is_more before pushed one =
    pushed
    ∙ (ap (λ (list : List Demand). list ++ added) before
    ∙ (ap (λ (list : List Demand). filter_map (asked_by words bit) rows ++ list) (sym one)
    ∙ (sym (filter_map-append (asked_by words bit) rows (row ∷ []))
    ∙ ap (λ (list : List KissRow). filter_map (asked_by words bit) list) (sym is_more))))

pub width_small : (inputs bits : ℕ) (set : ReadSet) → inputs ≤ 32 → bits ≤ 64 → IsWithin inputs bits set → width_of set ≤ 96
width_small inputs bits set few short within =
    omega (arith, few, short, ascending_count inputs set.inputs within.inputs_ascend within.inputs_within, ascending_count bits set.latches within.latches_ascend within.latches_within)

-- a row that says the bit, and what it asks for
pub record IsAskedByRow (words : List ℕ) (bit : Bit) (filled : List KissRow) (at : Demand) : Type 0 where
  pub row : KissRow
  pub among : Contains filled row
  pub cube : at.cube ≡ row.cube
  pub word : at.word ≡ slice_index words row.from
  pub gives : row_value words bit row ≡ Some at.given

module _ (F : KissFile) (words : List ℕ) (bits : ℕ) (set : ReadSet) (bit : Bit) (filled : List KissRow) (right : AreFilled F filled) (within : IsWithin F.inputs bits set) (place : IsBit F bit) where
  right_row : (row : KissRow) → Contains filled row → IsRight F row
  right_row row (k, lt, is) = subst (IsRight F) is (right.right k row lt)

  abbrev demands : List Demand
  demands = filter_map (asked_by words bit) filled

  row_of : (at : Demand) → Contains demands at → IsAskedByRow words bit filled at
  row_of at among =
      let asks = Contains-from_filter_map (asked_by words bit) filled at among in
      let row : KissRow = asks.0 in
      let found = mapped (demand_at row.cube (slice_index words row.from)) (row_value words bit row) at asks.2 in
      subst (IsAskedByRow words bit filled) found.2 (record { row = row; among = asks.1; cube = refl; word = refl; gives = found.1 })

  inputs_inside : (at : Demand) → Contains demands at → All (λ a. a < at.cube.width) set.inputs
  inputs_inside at among =
      let by = row_of at among in
      subst (λ (w : ℕ). All (λ a. a < w) set.inputs) (sym (ap (λ (cube : Cube). cube.width) by.cube ∙ (right_row by.row by.among).lawful.width)) within.inputs_within

  -- the bit is given where it is asked for
  from_asked : (given : Bool) (read : List Bool) → IsAsked set.inputs set.latches given demands read → GivesAt F words set (value_of F words bit) given read
  from_asked given read h =
      let by = row_of h.at h.among in
      let row : KissRow = by.row in
      let is : IsRight F row = right_row row by.among in
      let there : IsReadIn set.inputs set.latches row.cube (slice_index words row.from) read =
      subst (λ (word : ℕ). IsReadIn set.inputs set.latches row.cube word read) by.word (subst (λ (cube : Cube). IsReadIn set.inputs set.latches cube h.at.word read) by.cube h.is_read) in
      let n : ℕ = there.0 in
      let low : n < 2 ^ F.inputs = subst (λ (w : ℕ). n < 2 ^ w) is.lawful.width there.1 in
      record {
        s = row.from;
        x = symbol_of F.inputs n;
        state = is.lawful.from;
        symbol = length-symbol_of F.inputs n;
        read_there = there.3 ∙ ap (λ (w : ℕ). read_values words set row.from (symbol_of w n)) is.lawful.width;
        gives = row_gives F words bit row.from n row given is low there.2 (by.gives ∙ ap (λ (v : Bool). Some v) h.gives);
      }

  to_asked : (given : Bool) (read : List Bool) → GivesAt F words set (value_of F words bit) given read → IsAsked set.inputs set.latches given demands read
  to_asked given read h =
      let n : ℕ = number_of h.x in
      let low : n < 2 ^ F.inputs = subst (λ (w : ℕ). n < 2 ^ w) h.symbol (number_below h.x) in
      let whole : symbol_of F.inputs n ≡ h.x = ap (λ (w : ℕ). symbol_of w n) (sym h.symbol) ∙ symbol_of-number_of h.x in
      let found = right.each h.s n (part_of bit) h.state low (part_counted F bit place) in
      let row : KissRow = found.0 in
      let is : IsRight F row = right_row row found.1 in
      let told = says_value words bit row found.4 in
      let given_there : value_of F words bit row.from (symbol_of F.inputs n) ≡ given =
      ap (λ (s : ℕ). value_of F words bit s (symbol_of F.inputs n)) found.2 ∙ (ap (value_of F words bit h.s) whole ∙ h.gives) in
      let same_symbol : symbol_of row.cube.width n ≡ h.x = ap (λ (w : ℕ). symbol_of w n) is.lawful.width ∙ whole in
      let at : Demand = demand_at row.cube (slice_index words row.from) told.0 in
      record {
        at = at;
        among = Contains-filter_map (asked_by words bit) filled row at found.1 (ap (option_map (demand_at row.cube (slice_index words row.from))) told.1);
        gives = sym (row_gives F words bit row.from n row told.0 is low found.3 told.1) ∙ given_there;
        is_read = (
          n,
          subst (λ (w : ℕ). n < 2 ^ w) (sym is.lawful.width) low,
          found.3,
          h.read_there ∙ (ap (λ (s : ℕ). read_values words set s h.x) (sym found.2) ∙ ap (read_values words set row.from) (sym same_symbol)),
        );
      }

  can_be_read : F.inputs ≤ 32 → bits ≤ 64 → CanBeRead set.inputs set.latches demands
  can_be_read few short = record {
    inputs_within = λ k d lt. inputs_inside (get_or demands k d) (Contains-get_or demands k d lt);
    inputs_ascend = within.inputs_ascend;
    places_within = λ i d lt. omega (arith, within.latches_within i d lt, short);
    width = omega (arith, width_small F.inputs bits set few short within);
  }

  are_apart : IsEnough F words (value_of F words bit) set → NeverContradict set.inputs set.latches demands
  are_apart enough read is_on is_off =
      let one = from_asked true read is_on in
      let none = from_asked false read is_off in
      let same = equal_reads F words set (value_of F words bit) enough none.s one.s none.x one.x none.state one.state none.symbol one.symbol (sym none.read_there ∙ one.read_there) in
      false≢true (sym none.gives ∙ (same ∙ one.gives))

  -- with the values of a call
  module _ (inputs latches : List ℕ) (shown : List Demand) (same_inputs : inputs ≡ set.inputs) (same_latches : latches ≡ set.latches) (is_shown : shown ≡ demands) where
    pub can_be_read_at : F.inputs ≤ 32 → bits ≤ 64 → CanBeRead inputs latches shown
    can_be_read_at few short =
        subst (λ (list : List ℕ). CanBeRead list latches shown) (sym same_inputs)
        (subst (λ (list : List ℕ). CanBeRead set.inputs list shown) (sym same_latches)
        (subst (CanBeRead set.inputs set.latches) (sym is_shown) (can_be_read few short)))

    pub are_apart_at : IsEnough F words (value_of F words bit) set → NeverContradict inputs latches shown
    are_apart_at enough =
        subst (λ (list : List ℕ). NeverContradict list latches shown) (sym same_inputs)
        (subst (λ (list : List ℕ). NeverContradict set.inputs list shown) (sym same_latches)
        (subst (NeverContradict set.inputs set.latches) (sym is_shown) (are_apart enough)))

    -- a good cover of what is asked for is one of what the gate gives
    pub gives_cover_at : (rows : List (List ℕ)) → IsGoodCover (IsAsked inputs latches true shown) (IsAsked inputs latches false shown) rows
        → IsGoodCover (GivesAt F words set (value_of F words bit) true) (GivesAt F words set (value_of F words bit) false) rows
    gives_cover_at rows good =
        same_cover (IsAsked set.inputs set.latches true demands) (IsAsked set.inputs set.latches false demands) (GivesAt F words set (value_of F words bit) true) (GivesAt F words set (value_of F words bit) false) rows
        (from_asked true) (to_asked true) (from_asked false) (to_asked false)
        (subst (λ (list : List Demand). IsGoodCover (IsAsked set.inputs set.latches true list) (IsAsked set.inputs set.latches false list) rows) is_shown
        (subst (λ (list : List ℕ). IsGoodCover (IsAsked set.inputs list true shown) (IsAsked set.inputs list false shown) rows) same_latches
        (subst (λ (list : List ℕ). IsGoodCover (IsAsked list latches true shown) (IsAsked list latches false shown) rows) same_inputs good)))
