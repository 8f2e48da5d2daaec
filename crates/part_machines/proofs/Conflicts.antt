-- No two rows of the machine of a part conflict.
use Rattle.std.proofs.Common.{◌≡◌, inl, inr, ℕ, ◌^◌, ◌<◌, Bool, true, false, cond, All, List, ◌++◌, None, Option, Some, get_or, length, map, refl, sym, ◌∙◌, ap, subst, arith}
use Rattle.std.proofs.lemmas.Bool.{cases_Bool, cases_order, false≢true}
use Rattle.std.proofs.lemmas.List.{length-map}
use Rattle.std.proofs.lemmas.List.FromFn.{get_or-map-range_with_len}
use Rattle.std.specs.List.{AllZip, range_with_len}
use Rattle.std.specs.List.Sorted.{IsStrictlyIncreasing}
use Rattle.cubes.specs.Cube.{Holds, field_of}
use Rattle.cubes.specs.Field.{Allows, character}
use Rattle.cubes.specs.Symbol.{bit, number_of, symbol_of}
use Rattle.cubes.specs.Laws.Numbers.{number_below, symbol_of-number_of}
use Rattle.cubes.specs.Laws.Places.{length-characters}
use Rattle.dependence.specs.declared.sets.ReadSet.{ReadSet}
use Rattle.dependence.specs.declared.sets.Reads.{Reads}
use Rattle.dependence.specs.Laws.Said.{mapped}
use Rattle.gate_rows.specs.Columns.{input_of}
use Rattle.kiss_file.specs.declared.file.KissFile.{KissFile}
use Rattle.kiss_file.specs.declared.file.KissRow.{KissRow}
use Rattle.kiss_file.specs.Machine.{Conflicting, given_bit, next, output_bit}
use Rattle.machine_table.specs.Pieces.{IsRightRow}
use Rattle.net_core.specs.Laws.Valuations.{parts_of_append}
use Rattle.partition.specs.Partition.{Together}
use Rattle.realise.specs.Laws.{EqualReads}
use Rattle.realise.specs.Rows.{read_values}
use Rattle.state_codes.specs.declared.split.Part.{Part}
use Rattle.state_codes.specs.declared.Codes.{Codes}
use Rattle.state_codes.specs.declared.which.Which.{Which}
use Rattle.state_codes.specs.declared.which.Which.TheVariants.{Part as Numbered, Outputs}
use Rattle.part_machines.specs.Cells.{InOneCell}
use Rattle.part_machines.specs.Fields.{HoldsValues}
use Rattle.part_machines.specs.Laws.Cells.{cells_apart}
use Rattle.part_machines.specs.MachineLaws.{IsSplitOf}
use Rattle.part_machines.specs.PartRows.{ArePartRows, characters_at, given_outputs, next_block, output_count}
use Rattle.part_machines.specs.PartSet.{IsPartSet}
use Rattle.part_machines.specs.Which.{own_bits, partition_of}
use Rattle.part_machines.specs.Laws.Blocks.{next_together, output_same}
use Rattle.part_machines.proofs.MadeRows.{IsMade, row_is_made}
use Rattle.part_machines.proofs.Narrowed.{split_held, symbol_from}

-- a row that holds a symbol comes from a row that holds a symbol of the work machine with the inputs that are read
pub record Comes (W : KissFile) (set : ReadSet) (source : KissRow) (field : List (Option Bool)) (y : List Bool) : Type 0 where
  pub x : List Bool
  pub long : length x ≡ W.inputs
  pub held : Holds source.cube x
  pub values : List Bool
  pub in_field : HoldsValues field values
  pub is : y ≡ map (input_of x) set.inputs ++ values

module _ (W : KissFile) (code : Codes) (p : List ℕ) (set : ReadSet) (which : Which) (inputs : All (λ a. a < W.inputs) set.inputs) (ascend : IsStrictlyIncreasing set.inputs) where
  pub comes : (row : KissRow) → (made : IsMade W code p set which row) → (y : List Bool) → Holds row.cube y → Comes W set made.source made.field y
  unfolding Holds
  comes row made y held =
      let source : KissRow = made.source in
      let whole : List (Option Bool) = field_of source.cube in
      let width : length whole ≡ W.inputs = length-characters source.cube.width source.cube.care source.cube.value ∙ made.right.lawful.width in
      let parts = split_held (characters_at whole set.inputs) made.field y (subst (λ (f : List (Option Bool)). AllZip Allows f y) made.made.input held) in
      let within : All (λ a. a < length whole) set.inputs = subst (λ (n : ℕ). All (λ a. a < n) set.inputs) (sym width) inputs in
      let symbol = symbol_from whole set.inputs parts.0 within ascend parts.3 in
      record {
        x = symbol.0;
        long = symbol.1 ∙ width;
        held = symbol.2;
        values = parts.1;
        in_field = parts.4;
        is = parts.2 ∙ ap (λ (u : List Bool). u ++ parts.1) (sym symbol.3);
      }

  -- the number of a symbol that a right row holds
  number_held : (source : KissRow) (s : ℕ) (x : List Bool) → IsRightRow W s source → length x ≡ W.inputs → Holds source.cube x
      → (number_of x < 2 ^ W.inputs) × Holds source.cube (symbol_of source.cube.width (number_of x)) × (symbol_of W.inputs (number_of x) ≡ x)
  number_held source s x right long held =
      let written : symbol_of W.inputs (number_of x) ≡ x = subst (λ (k : ℕ). symbol_of k (number_of x) ≡ x) long (symbol_of-number_of x) in (
        subst (λ (k : ℕ). number_of x < 2 ^ k) long (number_below x),
        subst (Holds source.cube) (sym (ap (λ (k : ℕ). symbol_of k (number_of x)) right.lawful.width ∙ written)) held,
        written,
      )

  pub right_next : (source : KissRow) (s t : ℕ) (x : List Bool) → IsRightRow W s source → length x ≡ W.inputs → Holds source.cube x → source.to ≡ Some t → next W s x ≡ t
  right_next source s t x right long held names =
      let at = number_held source s x right long held in
      subst (λ (z : List Bool). next W s z ≡ t) at.2 (right.next_state (number_of x) t at.0 at.1 names)

  pub right_output : (source : KissRow) (s b : ℕ) (value : Bool) (x : List Bool) → IsRightRow W s source → length x ≡ W.inputs → Holds source.cube x → given_bit b source ≡ Some value
      → output_bit W s x b ≡ value
  right_output source s b value x right long held gives =
      let at = number_held source s x right long held in
      subst (λ (z : List Bool). output_bit W s z b ≡ value) at.2 (right.output (number_of x) b value at.0 at.1 gives)

  module _ (states : length p ≡ length W.states) (first second : KissRow) (one : IsMade W code p set which first) (other : IsMade W code p set which second) (from : first.from ≡ second.from)
      (y : List Bool) (comes_one : Comes W set one.source one.field y) (comes_other : Comes W set other.source other.field y) where
    both : (map (input_of comes_one.x) set.inputs ≡ map (input_of comes_other.x) set.inputs) × (comes_one.values ≡ comes_other.values)
    both =
        parts_of_append (map (input_of comes_one.x) set.inputs) comes_one.values (map (input_of comes_other.x) set.inputs) comes_other.values
        (sym comes_one.is ∙ comes_other.is) (length-map set.inputs (input_of comes_one.x) ∙ sym (length-map set.inputs (input_of comes_other.x)))

    together : Together p one.s other.s
    together = (one.least.state, other.least.state, sym one.made.from ∙ (from ∙ other.made.from))

    in_one : InOneCell p code.words set.latches one.s other.s
    in_one =
        cells_apart p code.words set.latches one.s other.s comes_one.values one.field other.field together one.of_cell other.of_cell comes_one.in_field
        (subst (HoldsValues other.field) (sym both.1) comes_other.in_field)

    -- rows of one block that share a symbol are of one cell
    pub one_state : one.s ≡ other.s
    one_state =
        elim (cases_order one.s other.s) [
          | inl same ↦ same
          | inr apart ↦ elim apart [
            | inl below ↦ absurd (other.least.least one.s below in_one)
            | inr above ↦ absurd (one.least.least other.s above ((in_one.0.1, in_one.0.0, sym in_one.0.2), sym in_one.1))
          ]
        ]

    -- and their rows come from symbols at which the same is read
    pub same_read : read_values code.words set one.s comes_one.x ≡ read_values code.words set other.s comes_other.x
    same_read =
        ap (λ (s : ℕ). read_values code.words set s comes_one.x) one_state
        ∙ ap (λ (u : List Bool). u ++ map (bit (get_or code.words other.s 0)) set.latches) both.0

-- ---- what such rows say
-- the block to which a row goes
abbrev pub target_of : List ℕ → Which → ℕ → ℕ
target_of p (Numbered j) n = get_or p n 0
target_of p Outputs n = 0

pub target : (W : KissFile) (p : List ℕ) (which : Which) (source row : KissRow) (s : ℕ) (x : List Bool) (t : ℕ) → row.to ≡ next_block p which source
    → ((n : ℕ) → source.to ≡ Some n → next W s x ≡ n) → row.to ≡ Some t → t ≡ target_of p which (next W s x)
target W p (Numbered j) source row s x t is goes names =
    let from = mapped (λ (n : ℕ). get_or p n 0) source.to t (sym is ∙ names) in
    sym from.2 ∙ ap (λ (n : ℕ). get_or p n 0) (sym (goes from.0 from.1))
target W p Outputs source row s x t is goes names = let same : Some 0 ≡ Some t = sym is ∙ names in cc

cares : (care value b : ℕ) (v : Bool) → character care value b ≡ Some v → bit care b ≡ true
cares care value b v gives =
    elim (cases_Bool (bit care b)) [
      | inl one ↦ one
      | inr none ↦
          let some : None ≡ Some v = sym (ap (λ (c : Bool). cond c (Some (bit value b)) None) none) ∙ gives in
          absurd (cc)
    ]

-- two lists of what rows give, place by place
pub given_same : (first second : KissRow) (n : ℕ) → map (λ b. given_bit b first) (range_with_len 0 n) ≡ map (λ b. given_bit b second) (range_with_len 0 n)
    → (b : ℕ) → b < n → given_bit b first ≡ given_bit b second
given_same first second n same b below =
    sym (get_or-map-range_with_len (λ k. given_bit k first) 0 n b b None below (omega arith))
    ∙ ap (λ (list : List (Option Bool)). get_or list b None) same
    ∙ get_or-map-range_with_len (λ k. given_bit k second) 0 n b b None below (omega arith)

module _ (W : KissFile) (parts : List Part) (code : Codes) (sets : Reads) (known : IsSplitOf W parts code sets) (equal : EqualReads) where
  module _ (which : Which) (p : List ℕ) (blocks_are : partition_of W parts which ≡ Some p) (set : ReadSet) (reads : IsPartSet code sets which set)
      (inputs : All (λ a. a < W.inputs) set.inputs) (states : length p ≡ length W.states)
      (first second : KissRow) (one : IsMade W code p set which first) (other : IsMade W code p set which second) (from : first.from ≡ second.from)
      (y : List Bool) (held : Holds first.cube y) (also : Holds second.cube y) where
    comes_one : Comes W set one.source one.field y
    comes_one = comes W code p set which inputs reads.inputs_ascend first one y held

    comes_other : Comes W set other.source other.field y
    comes_other = comes W code p set which inputs reads.inputs_ascend second other y also

    pub same_state : one.s ≡ other.s
    same_state = one_state W code p set which inputs reads.inputs_ascend states first second one other from y comes_one comes_other

    in_one_state : one.s < length W.states
    in_one_state = omega (arith, one.least.state, states)

    in_other_state : other.s < length W.states
    in_other_state = omega (arith, other.least.state, states)

    held_together : Together p one.s other.s
    held_together = (one.least.state, other.least.state, ap (λ (s : ℕ). get_or p s 0) same_state)

    read_both : read_values code.words set one.s comes_one.x ≡ read_values code.words set other.s comes_other.x
    read_both = same_read W code p set which inputs reads.inputs_ascend states first second one other from y comes_one comes_other

    pub one_next : (t u : ℕ) → first.to ≡ Some t → second.to ≡ Some u → t ≡ u
    one_next t u names_t names_u =
        target W p which one.source first one.s comes_one.x t one.made.to
        (λ n names. right_next W code p set which inputs reads.inputs_ascend one.source one.s n comes_one.x one.right comes_one.long comes_one.held names) names_t
        ∙ same which blocks_are reads
        ∙ sym (target W p which other.source second other.s comes_other.x u other.made.to
        (λ n names. right_next W code p set which inputs reads.inputs_ascend other.source other.s n comes_other.x other.right comes_other.long comes_other.held names) names_u)
      where
        same : (w : Which) → partition_of W parts w ≡ Some p → IsPartSet code sets w set → target_of p w (next W one.s comes_one.x) ≡ target_of p w (next W other.s comes_other.x)
        same (Numbered j) is are =
            next_together W parts code sets known equal (Numbered j) p is set are one.s other.s comes_one.x comes_other.x in_one_state in_other_state held_together
            comes_one.long comes_other.long read_both
        same Outputs is are = refl

    -- rows that give 0 and 1 at one output: of a part both give its bits, and of the outputs both give those of W
    pub one_given : (b : ℕ) → given_bit b first ≡ Some false → given_bit b second ≡ Some true → ⊥
    one_given b gives_none gives_one = by which blocks_are reads one.made.output other.made.output one.made.lawful.care
      where
        by : (w : Which) → partition_of W parts w ≡ Some p → IsPartSet code sets w set
            → map (λ k. given_bit k first) (range_with_len 0 (output_count W code w)) ≡ given_outputs W code w one.s one.source
            → map (λ k. given_bit k second) (range_with_len 0 (output_count W code w)) ≡ given_outputs W code w other.s other.source
            → ((k : ℕ) → bit first.care k ≡ true → k < output_count W code w) → ⊥
        by (Numbered j) is are of_first of_second counted =
            let below : b < output_count W code (Numbered j) = counted b (cares first.care first.value b false gives_none) in
            let bits : map (λ k. given_bit k first) (range_with_len 0 (output_count W code (Numbered j))) ≡ map (λ k. given_bit k second) (range_with_len 0 (output_count W code (Numbered j))) =
            of_first ∙ ap (λ (s : ℕ). map (λ c. Some (bit (get_or code.words s 0) c)) (own_bits code (Numbered j))) same_state ∙ sym of_second in
            let same : given_bit b first ≡ given_bit b second = given_same first second (output_count W code (Numbered j)) bits b below in
            let apart : Some false ≡ Some true = sym gives_none ∙ (same ∙ gives_one) in
            absurd (false≢true (cc))
        by Outputs is are of_first of_second counted =
            let below : b < W.outputs = counted b (cares first.care first.value b false gives_none) in
            let first_bit : given_bit b first ≡ given_bit b one.source = given_same first one.source W.outputs of_first b below in
            let second_bit : given_bit b second ≡ given_bit b other.source = given_same second other.source W.outputs of_second b below in
            let none : output_bit W one.s comes_one.x b ≡ false =
            right_output W code p set which inputs reads.inputs_ascend one.source one.s b false comes_one.x one.right comes_one.long comes_one.held (sym first_bit ∙ gives_none) in
            let some : output_bit W other.s comes_other.x b ≡ true =
            right_output W code p set which inputs reads.inputs_ascend other.source other.s b true comes_other.x other.right comes_other.long comes_other.held (sym second_bit ∙ gives_one) in
            let same : output_bit W one.s comes_one.x b ≡ output_bit W other.s comes_other.x b =
            output_same W parts code sets known equal p is set are one.s other.s comes_one.x comes_other.x in_one_state in_other_state held_together
            comes_one.long comes_other.long read_both b below in
            false≢true (sym none ∙ (same ∙ some))

  -- ---- all rows
  pub no_conflict : (which : Which) (p : List ℕ) → partition_of W parts which ≡ Some p → (set : ReadSet) → IsPartSet code sets which set → All (λ a. a < W.inputs) set.inputs → length p ≡ length W.states
      → (P : KissFile) → ArePartRows W code p set which P.rows → Conflicting P → ⊥
  no_conflict which p blocks_are set reads inputs states P rows conflict =
      let first : KissRow = conflict.0 in
      let second : KissRow = conflict.1 in
      let one = row_is_made W code p set which P.rows rows first conflict.2 in
      let other = row_is_made W code p set which P.rows rows second conflict.3 in
      let from : first.from ≡ second.from = conflict.4 in
      let y : List Bool = conflict.5.0 in
      elim conflict.6 [
        | inl two ↦
            two.4 (one_next which p blocks_are set reads inputs states first second one other from y conflict.5.1 conflict.5.2 two.0 two.1 two.2 two.3)
        | inr gives ↦
            one_given which p blocks_are set reads inputs states first second one other from y conflict.5.1 conflict.5.2 gives.0 gives.1 gives.2
      ]
