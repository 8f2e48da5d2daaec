-- Of each row of a cell an equal one is kept, and it is among all rows of the machine.
use Rattle.std.proofs.Common.{◌≡◌, inl, inr, ℕ, ◌<◌, Bool, false, Contains, IfSome, List, [], ◌∷◌, None, Option, Some, filter, map, not, refl, sym, ◌∙◌, ap, subst, arith}
use Rattle.std.proofs.lemmas.Bool.{cases_Bool}
use Rattle.std.proofs.lemmas.List.Elements.{Contains-append_left, Contains-append_right}
use Rattle.std.proofs.lemmas.Slice.Eq.{bytes_eq-Decides}
use Rattle.std.specs.List.{flat_map, range_with_len}
use Rattle.std.specs.Str.{bytes_eq}
use Rattle.cubes.specs.Cube.{field_of}
use Rattle.cubes.specs.Field.{character}
use Rattle.cubes.specs.Symbol.{bit}
use Rattle.dependence.specs.declared.sets.ReadSet.{ReadSet}
use Rattle.kiss_file.specs.declared.file.KissFile.{KissFile}
use Rattle.kiss_file.specs.declared.file.KissRow.{KissRow}
use Rattle.list_facts.specs.Laws.Members.{Contains-cons, Contains-filter, Contains-here, Contains-none, Contains-there}
use Rattle.partition.specs.Partition.{blocks_of}
use Rattle.state_codes.specs.declared.Codes.{Codes}
use Rattle.state_codes.specs.declared.which.Which.{Which}
use Rattle.part_machines.specs.PartRows.{IsPartRow, is_same_row, next_number, numbers_of_row, output_count, rows_once}

-- a row that is equal in all fields is made of the same row
same_target : (t u : Option ℕ) → next_number t ≡ next_number u → t ≡ u
same_target None None same = refl
same_target None (Some u) same = absurd (omega (arith, same))
same_target (Some t) None same = absurd (omega (arith, same))
same_target (Some t) (Some u) same = let here : t ≡ u = omega (arith, same) in ap (λ (n : ℕ). Some n) here

pub made_too : (W : KissFile) (code : Codes) (p : List ℕ) (set : ReadSet) (which : Which) (s : ℕ) (field : List (Option Bool)) (source row other : KissRow)
    → numbers_of_row other ≡ numbers_of_row row → IsPartRow W code p set which s field source row → IsPartRow W code p set which s field source other
made_too W code p set which s field source row other same made =
    let width : other.cube.width ≡ row.cube.width = cc in
    let input_care : other.cube.care ≡ row.cube.care = cc in
    let input_value : other.cube.value ≡ row.cube.value = cc in
    let from : other.from ≡ row.from = cc in
    let to : other.to ≡ row.to = same_target other.to row.to (cc) in
    let care : other.care ≡ row.care = cc in
    let value : other.value ≡ row.value = cc in
    let input : field_of other.cube ≡ field_of row.cube = cc in
    let outputs : List ℕ = range_with_len 0 (output_count W code which) in
    record {
      input = input ∙ made.input;
      from = from ∙ made.from;
      to = to ∙ made.to;
      output =
          ap (λ (c : ℕ). map (character c other.value) outputs) care ∙ (ap (λ (v : ℕ). map (character row.care v) outputs) value ∙ made.output);
      lawful = record {
        width = width ∙ made.lawful.width;
        from = subst (λ (n : ℕ). n < blocks_of p) (sym from) made.lawful.from;
        to = subst (λ (o : Option ℕ). IfSome o (λ state. state < blocks_of p)) (sym to) made.lawful.to;
        care = λ b is. made.lawful.care b (ap (λ (n : ℕ). bit n b) (sym care) ∙ is);
        value = λ b is. ap (λ (n : ℕ). bit n b) care ∙ made.lawful.value b (ap (λ (n : ℕ). bit n b) (sym value) ∙ is);
      };
    }

-- a row that is equal to it in all fields
pub record HasEqual (rows : List KissRow) (row : KissRow) : Type 0 where
  pub other : KissRow
  pub among : Contains rows other
  pub same : numbers_of_row other ≡ numbers_of_row row

abbrev others_than : KissRow → List KissRow → List KissRow
others_than first rows = filter (λ other. not (is_same_row first other)) rows

pub kept_once : (rows : List KissRow) (row : KissRow) → Contains rows row → HasEqual (rows_once rows) row
unfolding rows_once
kept_once [] row among = absurd (Contains-none row among)
kept_once (first ∷ rows) row among =
    elim (cases_Bool (is_same_row first row)) [
      | inl same ↦ record {
        other = first;
        among = Contains-here first (others_than first (rows_once rows));
        same = (bytes_eq-Decides (numbers_of_row first) (numbers_of_row row)).0 same;
      }
      | inr apart ↦
          elim (Contains-cons first row rows among) [
            | inl at ↦ record { other = first; among = Contains-here first (others_than first (rows_once rows)); same = ap numbers_of_row at }
            | inr later ↦
                let found = kept_once rows row later in
                let differs : is_same_row first found.other ≡ false = ap (λ (list : List ℕ). bytes_eq (numbers_of_row first) list) found.same ∙ apart in
                record {
                  other = found.other;
                  among =
                      Contains-there first found.other (others_than first (rows_once rows))
                      (Contains-filter (λ other. not (is_same_row first other)) (rows_once rows) found.other found.among (ap not differs));
                  same = found.same;
                }
          ]
    ]

pub joined_among : (lists : List (List KissRow)) (list : List KissRow) (row : KissRow) → Contains lists list → Contains list row → Contains (flat_map (λ l. l) lists) row
joined_among [] list row there among = absurd (Contains-none list there)
joined_among (first ∷ lists) list row there among =
    elim (Contains-cons first list lists there) [
      | inl at ↦ Contains-append_left first (flat_map (λ l. l) lists) row (subst (λ (l : List KissRow). Contains l row) (sym at) among)
      | inr later ↦ Contains-append_right first (flat_map (λ l. l) lists) row (joined_among lists list row later among)
    ]
