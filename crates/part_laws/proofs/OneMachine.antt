-- Where nothing is open in the work machine, there is one machine of a part.
use Rattle.std.proofs.Common.{◌≡◌, ◌∙◌, inl, inr, ℕ, ◌+◌, ◌<◌, Bool, true, false, All, Contains, List, None, Option, Some, cond, filter, length, map, get_or, slice_get, refl, sym, ap, subst, arith}
use Rattle.std.proofs.lemmas.Bool.{cases_lt, false≢true}
use Rattle.std.proofs.lemmas.List.{length-replicate}
use Rattle.std.proofs.lemmas.List.FromFn.{get_or-map-range_with_len}
use Rattle.std.proofs.lemmas.Nat.Bits.{same_from_bits}
use Rattle.std.proofs.lemmas.Option.{same_Some, slice_get_within}
use Rattle.std.specs.List.{AllZip, flat_map, range_with_len}
use Rattle.cubes.specs.declared.cube.Cube.{Cube}
use Rattle.cubes.specs.Field.{byte_of}
use Rattle.cubes.specs.Laws.Bits.{same_digits}
use Rattle.cubes.specs.Symbol.{bit}
use Rattle.dependence.specs.declared.sets.ReadSet.{ReadSet}
use Rattle.dependence.specs.declared.sets.Reads.{Reads}
use Rattle.kiss2.specs.Laws.SameRecord.{same_cube}
use Rattle.kiss_file.specs.declared.file.KissFile.{KissFile}
use Rattle.kiss_file.specs.declared.file.KissRow.{KissRow}
use Rattle.kiss_file.specs.LawfulFile.{IsLawfulRow}
use Rattle.kiss_file.specs.Machine.{Specified, given_bit}
use Rattle.net_core.specs.declared.SignalNames.{SignalNames}
use Rattle.state_codes.specs.declared.which.Which.{Which}
use Rattle.state_codes.specs.declared.which.Which.TheVariants.{Part as Numbered, Outputs}
use Rattle.part_machines.specs.Which.{partition_of}
use Rattle.dependence.specs.Laws.Said.{mapped}
use Rattle.list_facts.specs.Laws.Everywhere.{all_at}
use Rattle.state_codes.specs.Split.{IsPart}
use Rattle.part_machines.specs.Cells.{AreCells, Shows, values_of}
use Rattle.part_machines.specs.Fields.{IsFieldOf, LeavesAt}
use Rattle.part_machines.specs.Laws.Fields.{same_places}
use Rattle.part_machines.specs.PartMachine.{HasBlocks, HasSignals, IsPartOf}
use Rattle.part_machines.specs.PartRows.{AreCellRows, ArePartRows, IsPartRow, is_taken, output_count, rows_once}
use Rattle.partition.specs.Partition.{blocks_of, one_of}
use Rattle.list_facts.specs.Laws.Places.{item_at}
use Rattle.state_codes.specs.declared.Codes.{Codes}
use Rattle.state_codes.specs.declared.split.Part.{Part}
use Rattle.part_texts.specs.Laws.OneSplit.{set_once}
use Rattle.part_laws.specs.OneMachine.{MachineIsOne}
use Rattle.part_laws.proofs.Specified.{specified_work}
use Rattle.part_laws.proofs.Lists.{zip_once}
use Rattle.decomposition.specs.Laws.Lists.{same_ascending, same_items}

-- ---- one field
module _ (Shown : List Bool → Type 0) (v : List Bool) (one other : List (Option Bool)) (first : IsFieldOf Shown v one) (second : IsFieldOf Shown v other) where
  field_at : (k : ℕ) (a b : Option Bool) → slice_get one k ≡ Some a → slice_get other k ≡ Some b → a ≡ b
  field_at k a b there there_too =
      elim (same_places a b) [
        | inl same ↦ same
        | inr apart ↦
            let low : k < length v = omega (arith, first.size, slice_get_within one k a there) in
            let bit_there = item_at v k low in
            let stays : LeavesAt Shown v k → ⊥ =
            λ leaves. apart (same_Some a b (sym there ∙ (first.literal k bit_there.0 bit_there.1 leaves ∙ (sym (second.literal k bit_there.0 bit_there.1 leaves) ∙ there_too)))) in
            absurd (apart (same_Some a b (sym there ∙ (first.dash k low stays ∙ (sym (second.dash k low stays) ∙ there_too)))))
      ]

  pub field_once : one ≡ other
  field_once = same_items one other (first.size ∙ sym second.size) field_at

-- ---- one row
-- characters give the same bits where they are the same
cares_alike : (a b x y : Bool) → cond a (Some x) None ≡ cond b (Some y) None → a ≡ b
cares_alike true true x y e = refl
cares_alike true false x y e = absurd (cc)
cares_alike false true x y e = absurd (cc)
cares_alike false false x y e = refl

values_alike : (a x y : Bool) → a ≡ true → cond a (Some x) None ≡ cond a (Some y) None → x ≡ y
values_alike true x y is e = same_Some x y e
values_alike false x y is e = absurd (false≢true is)

-- two bits of which one and the other are 1 together
both_or_none : (a b : Bool) → (a ≡ true → b ≡ true) → (b ≡ true → a ≡ true) → a ≡ b
both_or_none true b to back = sym (to refl)
both_or_none false true to back = absurd (false≢true (back refl))
both_or_none false false to back = refl

module _ (row other : KissRow) (inputs outputs states : ℕ) (lawful : IsLawfulRow inputs outputs states row) (lawful_too : IsLawfulRow inputs outputs states other)
    (same : map (λ b. given_bit b row) (range_with_len 0 outputs) ≡ map (λ b. given_bit b other) (range_with_len 0 outputs)) where
  given_at : (b : ℕ) → b < outputs → given_bit b row ≡ given_bit b other
  given_at b low =
      sym (get_or-map-range_with_len (λ b. given_bit b row) 0 outputs b b None low (omega arith))
      ∙ (ap (λ (list : List (Option Bool)). get_or list b None) same ∙ get_or-map-range_with_len (λ b. given_bit b other) 0 outputs b b None low (omega arith))

  care_at : (b : ℕ) → bit row.care b ≡ bit other.care b
  care_at b =
      elim (cases_lt b outputs) [
        | inl low ↦ cares_alike (bit row.care b) (bit other.care b) (bit row.value b) (bit other.value b) (given_at b low)
        | inr high ↦
            both_or_none (bit row.care b) (bit other.care b)
            (λ one. absurd (omega (arith, high, lawful.care b one)))
            (λ one. absurd (omega (arith, high, lawful_too.care b one)))
      ]

  value_at : (b : ℕ) → bit row.value b ≡ bit other.value b
  value_at b =
      let alike : bit row.care b ≡ true → bit row.value b ≡ bit other.value b =
      λ one.
      let low : b < outputs = lawful.care b one in
      let moved : cond (bit row.care b) (Some (bit row.value b)) None ≡ cond (bit row.care b) (Some (bit other.value b)) None =
      given_at b low ∙ ap (λ (t : Bool). cond t (Some (bit other.value b)) None) (sym (care_at b)) in
      values_alike (bit row.care b) (bit row.value b) (bit other.value b) one moved in
      both_or_none (bit row.value b) (bit other.value b)
      (λ one. sym (alike (lawful.value b one)) ∙ one)
      (λ one. alike (care_at b ∙ lawful_too.value b one) ∙ one)

  pub same_care : row.care ≡ other.care
  same_care = same_from_bits row.care other.care (λ b. same_digits row.care other.care b b (care_at b))

  pub same_value : row.value ≡ other.value
  same_value = same_from_bits row.value other.value (λ b. same_digits row.value other.value b b (value_at b))

make_row : (a b : Cube) (f g : ℕ) (t u : Option ℕ) (c d v w : ℕ) → a ≡ b → f ≡ g → t ≡ u → c ≡ d → v ≡ w
    → ◌≡◌ {A = KissRow} (record { cube = a; from = f; to = t; care = c; value = v }) (record { cube = b; from = g; to = u; care = d; value = w })
make_row a b f g t u c d v w p q r s x = cc

module _ (W : KissFile) (code : Codes) (p : List ℕ) (set : ReadSet) (which : Which) where
  row_once : (s : ℕ) (field : List (Option Bool)) (row made more : KissRow) → IsPartRow W code p set which s field row made → IsPartRow W code p set which s field row more → made ≡ more
  row_once s field row made more one two =
      let outputs : map (λ b. given_bit b made) (range_with_len 0 (output_count W code which)) ≡ map (λ b. given_bit b more) (range_with_len 0 (output_count W code which)) = one.output ∙ sym two.output in
      make_row made.cube more.cube made.from more.from made.to more.to made.care more.care made.value more.value
      (same_cube made.cube more.cube (ap (map byte_of) (one.input ∙ sym two.input)))
      (one.from ∙ sym two.from) (one.to ∙ sym two.to)
      (same_care made more (length set.inputs + length set.latches) (output_count W code which) (blocks_of p) one.lawful two.lawful outputs)
      (same_value made more (length set.inputs + length set.latches) (output_count W code which) (blocks_of p) one.lawful two.lawful outputs)

  -- ---- the rows of a cell
  module _ (s : ℕ) (low : s < length W.states) (specified : Specified W) (made more : List KissRow) (one : AreCellRows W code p set which s made) (two : AreCellRows W code p set which s more) where
    fields : two.field ≡ one.field
    fields = field_once (Shows p code.words set.latches s) (values_of code.words set.latches s) two.field one.field two.of_cell one.of_cell

    filled : two.filled ≡ one.filled
    filled = two.of_state.own (λ x long. specified s x low long) ∙ sym (one.of_state.own (λ x long. specified s x low long))

    moved : AllZip (IsPartRow W code p set which s one.field) (filter (is_taken W.outputs which) one.filled) two.all
    moved =
        subst (λ (rows : List KissRow). AllZip (IsPartRow W code p set which s one.field) (filter (is_taken W.outputs which) rows) two.all) filled
        (subst (λ (field : List (Option Bool)). AllZip (IsPartRow W code p set which s field) (filter (is_taken W.outputs which) two.filled) two.all) fields two.each)

    pub cell_once : made ≡ more
    cell_once =
        one.once
        ∙ (ap rows_once (zip_once (IsPartRow W code p set which s one.field) (filter (is_taken W.outputs which) one.filled) one.all two.all
        (λ row among a b is also. row_once s one.field row a b is also) one.each moved)
        ∙ sym two.once)

  -- ---- all rows
  leasts_once : (leasts others : List ℕ) → AreCells p code.words set.latches leasts → AreCells p code.words set.latches others → leasts ≡ others
  leasts_once leasts others one two =
      same_ascending leasts others one.ascend two.ascend
      (λ s. ((λ is. (two.each s).1 ((one.each s).0 is)), (λ is. (one.each s).1 ((two.each s).0 is))))

  lists_once : (leasts : List ℕ) (lists others : List (List KissRow)) → Specified W → ((s : ℕ) → Contains leasts s → s < length W.states)
      → AllZip (AreCellRows W code p set which) leasts lists → AllZip (AreCellRows W code p set which) leasts others → lists ≡ others
  lists_once leasts lists others specified low one two =
      zip_once (AreCellRows W code p set which) leasts lists others
      (λ s among made more is also. cell_once s (low s among) specified made more is also) one two

  pub all_rows_once : (rows others : List KissRow) → length p ≡ length W.states → Specified W → ArePartRows W code p set which rows → ArePartRows W code p set which others → rows ≡ others
  all_rows_once rows others size specified one two =
      let leasts : two.leasts ≡ one.leasts = leasts_once two.leasts one.leasts two.cells one.cells in
      let low : (s : ℕ) → Contains one.leasts s → s < length W.states = λ s among. omega (arith, size, ((one.cells.each s).0 among).state) in
      one.joined
      ∙ (ap (flat_map (λ list. list))
      (lists_once one.leasts one.lists two.lists specified low one.each (subst (λ (list : List ℕ). AllZip (AreCellRows W code p set which) list two.lists) leasts two.each))
      ∙ sym two.joined)

-- ---- the machine
same_file : (i j o q r t : ℕ) (states others : List (List ℕ)) (rows more : List KissRow) (a b c d : Option (List (List ℕ))) → i ≡ j → o ≡ q → r ≡ t → states ≡ others → rows ≡ more → a ≡ b → c ≡ d
    → ◌≡◌ {A = KissFile} (record { inputs = i; outputs = o; reset = r; states = states; rows = rows; input_names = a; output_names = c })
    (record { inputs = j; outputs = q; reset = t; states = others; rows = more; input_names = b; output_names = d })
same_file i j o q r t states others rows more a b c d e f g h k l m = cc

-- the partition of a part has a label for each state
size_of : (W : KissFile) (parts : List Part) (which : Which) (p : List ℕ) → All (IsPart (length W.states)) parts → partition_of W parts which ≡ Some p → length p ≡ length W.states
size_of W parts (Numbered j) p lawful is =
    let of_part = mapped (λ (part : Part). part.partition) (slice_get parts j) p is in
    let here : IsPart (length W.states) of_part.0 = all_at (IsPart (length W.states)) parts j of_part.0 lawful of_part.1 in
    ap length (sym of_part.2) ∙ here.partition.length
size_of W parts Outputs p lawful is =
    ap length (sym (same_Some (one_of (length W.states)) p is)) ∙ length-replicate {A = ℕ} (length W.states) 0

of_one_work : (W : KissFile) (parts : List Part) (code : Codes) (sets : Reads) (names : SignalNames) (which : Which) (P Q : KissFile)
    → All (IsPart (length W.states)) parts → Specified W → IsPartOf W parts code sets names which P → IsPartOf W parts code sets names which Q → P ≡ Q
of_one_work W parts code sets names which P Q lawful specified one two =
    let p : two.partition ≡ one.partition = same_Some two.partition one.partition (sym two.blocks_are ∙ one.blocks_are) in
    let set : two.set ≡ one.set = set_once code sets which two.set one.set two.reads one.reads in
    let signals : HasSignals W code one.set names which Q = subst (λ (s : ReadSet). HasSignals W code s names which Q) set two.signals in
    let blocks : HasBlocks W one.partition which Q = subst (λ (q : List ℕ). HasBlocks W q which Q) p two.blocks in
    let rows : ArePartRows W code one.partition one.set which Q.rows =
    subst (λ (s : ReadSet). ArePartRows W code one.partition s which Q.rows) set (subst (λ (q : List ℕ). ArePartRows W code q two.set which Q.rows) p two.rows) in
    same_file P.inputs Q.inputs P.outputs Q.outputs P.reset Q.reset P.states Q.states P.rows Q.rows P.input_names Q.input_names P.output_names Q.output_names
    ((one.signals).inputs ∙ sym signals.inputs)
    ((one.signals).outputs ∙ sym signals.outputs)
    ((one.blocks).reset ∙ sym blocks.reset)
    ((one.blocks).states ∙ sym blocks.states)
    (all_rows_once W code one.partition one.set which P.rows Q.rows (size_of W parts which one.partition lawful one.blocks_are) specified one.rows rows)
    ((one.signals).input_names ∙ sym signals.input_names)
    ((one.signals).output_names ∙ sym signals.output_names)

pub machine_is_one : MachineIsOne
machine_is_one reduce F W parts code sets names which P Q work lawful specified one two =
    of_one_work W parts code sets names which P Q lawful (specified_work reduce F W work.0 work.1 specified) one two
