-- The gate of an output, from its classes, its demands and what it reads.
use Rattle.std.proofs.Common.{◌≡◌, ◌↔◌, ℕ, ◌+◌, ◌*◌, ◌^◌, ◌<◌, ◌≤◌, Bool, true, false, Contains, All, List, ◌++◌, length, map, get_or, slice_index, bit_and, ap, sym, ◌∙◌, subst, arith}
use Rattle.std.specs.Cmp.Lexicographic.{slice_cmp}
use Rattle.std.specs.List.Sorted.{IsSorted}
use Rattle.std.specs.Ordering.{nat_cmp}
use Rattle.std.proofs.lemmas.Bool.{false≢true}
use Rattle.std.proofs.lemmas.List.{length-map}
use Rattle.std.proofs.lemmas.List.Elements.{All-contains, All-map, All-weaker, Contains-get_or}
use Rattle.std.proofs.lemmas.Nat.{and_le_l}
use Rattle.std.proofs.lemmas.Nat.Bits.{bit_at-lt, bit_at_and, same_from_bits}
use Rattle.list_facts.specs.Laws.Everywhere.{map_same}
use Rattle.list_facts.specs.Laws.Members.{agree_from_map}
use Rattle.list_facts.specs.Laws.Places.{ascending_count}
use Rattle.cubes.specs.Cube.{HoldsNumber}
use Rattle.cubes.specs.Symbol.{bit, number_of, symbol_of}
use Rattle.cubes.specs.Laws.Bits.{same_bits}
use Rattle.cubes.specs.Laws.Numbers.{length-symbol_of, number_below, symbol_of-number_of}
use Rattle.dependence.specs.declared.sets.ReadSet.{ReadSet}
use Rattle.dependence.specs.BitLists.{AreListed}
use Rattle.dependence.specs.Inputs.{DifferAlone}
use Rattle.dependence.specs.SufficientBits.{InWord}
use Rattle.gate_rows.specs.declared.demands.Demand.{Demand}
use Rattle.gate_rows.specs.Columns.{column_count, column_values, input_of}
use Rattle.gate_rows.specs.GateCovers.{IsGoodCover}
use Rattle.gate_rows.specs.Demands.{NeverContradict, CanBeRead, IsAsked}
use Rattle.gate_rows.specs.Names.{name_at}
use Rattle.gate_rows.specs.Laws.LatchNames.{listed_count}
use Rattle.gate_rows.specs.Laws.ReadNumbers.{code_at}
use Rattle.gate_rows.specs.Laws.TermCovers.{same_cover}
use Rattle.kiss_file.specs.declared.file.KissFile.{KissFile}
use Rattle.net_core.specs.declared.Gate.{Gate}
use Rattle.net_core.specs.declared.SignalNames.{SignalNames}
use Rattle.net_core.specs.Laws.Valuations.{parts_of_append}
use Rattle.shift_real.specs.Gates.{GivesAfter, InputMatters, IsOutputGate, IsReadAfter, LatchMatters, output_after}
use Rattle.shift_real.specs.Inner.ContentDemands.{AreClassDemands, IsClassDemand, IsWithinMask}
use Rattle.shift_real.specs.declared.output_reads.OutputReading.{OutputReading}
use Rattle.shift_real.specs.Inner.OutputReading.{IsOutputReading}
use Rattle.shift_real.specs.Inner.OutputReads.{FlipMatters, MattersAmong}
use Rattle.shift_real.specs.Inner.Tables.{AreFirsts, IsStateTable, content_of, word_of}
use Rattle.shift_real.specs.Register.{latch_values}
use Rattle.shift_real.specs.Words.{IsWord}
use Rattle.shift_real.proofs.ContentWords.{bits_are_word, content_is_word, content_values, latch_values_of, numbered, values_length, word_of_latches}
use Rattle.shift_real.proofs.OutputReads.{among_input, class_count, class_value, differ_within, flip_matters, input_among, matters_flip}
use Rattle.shift_real.proofs.SameReads.{same_reads}

-- ---- what is read decides the output
module _ (F : KissFile) (k b : ℕ) (set : ReadSet) (reads : IsReadAfter F k b set) where
  latches_decide : (x : List Bool) → length x ≡ F.inputs → (word other : List (List Bool)) → IsWord F k word → IsWord F k other
      → ((l : ℕ) → Contains set.latches l → get_or (latch_values word) l false ≡ get_or (latch_values other) l false) → output_after F b word x ≡ output_after F b other x
  latches_decide x long word other is of same =
      let value : List Bool → Bool = λ bits. output_after F b (word_of k F.inputs bits) x in
      let decided : value (latch_values word) ≡ value (latch_values other) =
      same_reads value (k * F.inputs) (Contains set.latches) (λ l bits others size differ values.
      let size_others : length others ≡ k * F.inputs = sym differ.lengths ∙ size in
      (reads.latches l).1 (record {
        word = word_of k F.inputs bits;
        other = word_of k F.inputs others;
        x = x;
        content = bits_are_word F k bits size;
        other_content = bits_are_word F k others size_others;
        symbol = long;
        differ = subst (λ (list : List Bool). DifferAlone l list (latch_values (word_of k F.inputs others))) (sym (latch_values_of k F.inputs bits size))
            (subst (λ (list : List Bool). DifferAlone l bits list) (sym (latch_values_of k F.inputs others size_others)) differ);
        values = values;
      })) (latch_values word) (latch_values other) (values_length F k word is) (values_length F k other of) same in
      ap (λ (w : List (List Bool)). output_after F b w x) (sym (word_of_latches F.inputs word k is.count is.symbols))
      ∙ (decided ∙ ap (λ (w : List (List Bool)). output_after F b w x) (word_of_latches F.inputs other k of.count of.symbols))

  inputs_decide : (word : List (List Bool)) → IsWord F k word → (x y : List Bool) → length x ≡ F.inputs → length y ≡ F.inputs
      → ((a : ℕ) → Contains set.inputs a → input_of x a ≡ input_of y a) → output_after F b word x ≡ output_after F b word y
  inputs_decide word is x y long other same =
      same_reads (output_after F b word) F.inputs (Contains set.inputs) (λ a p q size differ values.
      (reads.inputs a).1 (record { word = word; x = p; y = q; content = is; symbol = size; differ = differ; values = values })) x y long other same

  -- so the same values that are read give one bit
  pub gives_one : (read : List Bool) → GivesAfter F k b set true read → GivesAfter F k b set false read → ⊥
  gives_one read one none =
      let latch_of : List (List Bool) → ℕ → Bool = λ word l. get_or (latch_values word) l false in
      let parts =
      parts_of_append (map (input_of one.x) set.inputs) (map (latch_of one.word) set.latches) (map (input_of none.x) set.inputs) (map (latch_of none.word) set.latches)
      (sym one.read_there ∙ none.read_there) (length-map set.inputs (input_of one.x) ∙ sym (length-map set.inputs (input_of none.x))) in
      let latches : output_after F b one.word one.x ≡ output_after F b none.word one.x =
      latches_decide one.x one.symbol one.word none.word one.content none.content (agree_from_map (latch_of one.word) (latch_of none.word) set.latches parts.1) in
      let inputs : output_after F b none.word one.x ≡ output_after F b none.word none.x =
      inputs_decide none.word none.content one.x none.x one.symbol none.symbol (agree_from_map (input_of one.x) (input_of none.x) set.inputs parts.0) in
      false≢true (sym none.gives ∙ (sym inputs ∙ (sym latches ∙ one.gives)))

-- ---- the gate
module _ (F : KissFile) (k b : ℕ) (table firsts classes : List ℕ) (mask inputs : ℕ) (set : ReadSet) (is : IsStateTable F k table) (are : AreFirsts F b (length F.states) firsts) (mapped : classes ≡ map (slice_index firsts) table) (short : k * F.inputs ≤ 12) (few : F.inputs ≤ 32) (of_output : b < F.outputs) (latch_bits : (l : ℕ) → InWord mask l ↔ (l < k * F.inputs × FlipMatters classes l)) (input_bits : (a : ℕ) → InWord inputs a ↔ MattersAmong F b table (length F.states) a) (listed_latches : AreListed set.latches mask 64) (listed_inputs : AreListed set.inputs inputs 64) where
  latch_listed : (l : ℕ) → Contains set.latches l → (l < k * F.inputs) × LatchMatters F k b l
  latch_listed l among =
      let there = (latch_bits l).0 ((listed_latches.each l).0 among).1 in
      (there.0, flip_matters F k b table firsts classes is are mapped l there.0 there.1)

  input_listed : (a : ℕ) → Contains set.inputs a → (a < F.inputs) × InputMatters F k b a
  input_listed a among =
      let matters : InputMatters F k b a = among_input F k b table firsts classes is are mapped a ((input_bits a).0 ((listed_inputs.each a).0 among).1) in
      (differ_within F.inputs a matters.x matters.y matters.symbol matters.differ, matters)

  pub reads : IsReadAfter F k b set
  reads = record {
    latches = λ l. (
      λ among. (latch_listed l among).1,
      λ matters.
          let lt : l < k * F.inputs = differ_within (k * F.inputs) l (latch_values matters.word) (latch_values matters.other) (values_length F k matters.word matters.content) matters.differ in
          (listed_latches.each l).1 (omega (arith, lt, short), (latch_bits l).1 (lt, matters_flip F k b table firsts classes is are mapped l matters)),
    );
    latches_within = λ i d lt. (latch_listed (get_or set.latches i d) (Contains-get_or set.latches i d lt)).0;
    latches_ascend = listed_latches.ascend;
    inputs = λ a. (
      λ among. (input_listed a among).1,
      λ matters.
          (listed_inputs.each a).1 (omega (arith, few, differ_within F.inputs a matters.x matters.y matters.symbol matters.differ), (input_bits a).1 (input_among F k b table firsts classes is are mapped a matters)),
    );
    inputs_within = λ i d lt. (input_listed (get_or set.inputs i d) (Contains-get_or set.inputs i d lt)).0;
    inputs_ascend = listed_inputs.ascend;
  }

  module _ (demands : List Demand) (known : AreClassDemands F b classes (IsWithinMask mask) demands) where
    class_demand : (at : Demand) → Contains demands at → IsClassDemand F b classes at
    class_demand at among = All-contains (IsClassDemand F b classes) demands at known.right among

    low_number : (at : Demand) → Contains demands at → at.word < 2 ^ (k * F.inputs)
    low_number at among = let lt = (class_demand at among).number in omega (arith, lt, class_count F k b table firsts classes is are mapped)

    pub can_be_read : CanBeRead set.inputs set.latches demands
    can_be_read = record {
      inputs_within = All-weaker (IsClassDemand F b classes) (λ (at : Demand). All (λ a. a < at.cube.width) set.inputs)
          (λ at of. subst (λ (w : ℕ). All (λ a. a < w) set.inputs) (sym of.width) reads.inputs_within) demands known.right;
      inputs_ascend = listed_inputs.ascend;
      places_within = All-weaker (λ l. l < k * F.inputs) (λ l. l < 64) (λ l lt. omega (arith, lt, short)) set.latches reads.latches_within;
      width = omega (
        arith,
        few,
        short,
        ascending_count F.inputs set.inputs reads.inputs_ascend reads.inputs_within,
        ascending_count (k * F.inputs) set.latches reads.latches_ascend reads.latches_within,
      );
    }

    -- what a demand asks for is what the output is after its content
    asks : (at : Demand) → Contains demands at → (x : ℕ) → x < 2 ^ F.inputs → HoldsNumber at.cube x → output_after F b (content_of F k at.word) (symbol_of F.inputs x) ≡ at.given
    asks at among x low held =
        let of = class_demand at among in
        sym (class_value F k b table firsts classes is are mapped at.word (low_number at among) (symbol_of F.inputs x) (length-symbol_of F.inputs x)) ∙ of.gives x low held

    -- the latch values of a content are the bits of its number
    latch_bit : (number l : ℕ) → l < k * F.inputs → bit number l ≡ get_or (latch_values (content_of F k number)) l false
    latch_bit number l lt = sym (ap (λ (bits : List Bool). get_or bits l false) (content_values F k number) ∙ code_at (k * F.inputs) number l lt)

    from_demand : (given : Bool) (read : List Bool) → IsAsked set.inputs set.latches given demands read → GivesAfter F k b set given read
    from_demand given read h =
        let at : Demand = h.at in
        let of = class_demand at h.among in
        let x : ℕ = h.is_read.0 in
        let low : x < 2 ^ F.inputs = subst (λ (w : ℕ). x < 2 ^ w) of.width h.is_read.1 in
        record {
          word = content_of F k at.word;
          x = symbol_of F.inputs x;
          content = content_is_word F k at.word;
          symbol = length-symbol_of F.inputs x;
          read_there = h.is_read.3
              ∙ (ap (λ (w : ℕ). column_values set.inputs set.latches (symbol_of w x) at.word) of.width
              ∙ ap (λ (back : List Bool). map (input_of (symbol_of F.inputs x)) set.inputs ++ back)
              (map_same (bit at.word) (λ l. get_or (latch_values (content_of F k at.word)) l false) set.latches (λ i d lt. latch_bit at.word (get_or set.latches i d) (reads.latches_within i d lt))));
          gives = asks at h.among x low h.is_read.2 ∙ h.gives;
        }

    -- the content with zeros at the latches that are not read
    kept_bit : (number l : ℕ) → InWord mask l → bit (bit_and number mask) l ≡ bit number l
    kept_bit number l in_mask = same_bits (bit_and number mask) number l l (omega (arith, bit_at_and number mask l, in_mask, bit_at-lt number l))

    masked : (number : ℕ) → IsWithinMask mask (bit_and number mask)
    masked number = same_from_bits (bit_and (bit_and number mask) mask) (bit_and number mask) (λ i. omega (arith, bit_at_and (bit_and number mask) mask i, bit_at_and number mask i))

    to_demand : (given : Bool) (read : List Bool) → GivesAfter F k b set given read → IsAsked set.inputs set.latches given demands read
    to_demand given read h =
        let one = numbered F k h.word h.content in
        let least : ℕ = bit_and one.number mask in
        let low : least < 2 ^ (k * F.inputs) = omega (arith, one.low, and_le_l one.number mask) in
        let n : ℕ = number_of h.x in
        let low_n : n < 2 ^ F.inputs = subst (λ (w : ℕ). n < 2 ^ w) h.symbol (number_below h.x) in
        let whole : symbol_of F.inputs n ≡ h.x = ap (λ (w : ℕ). symbol_of w n) (sym h.symbol) ∙ symbol_of-number_of h.x in
        let found = known.each least n (omega (arith, low, class_count F k b table firsts classes is are mapped)) (masked one.number) low_n in
        let at : Demand = found.0 in
        let of = class_demand at found.1 in
        let read_bit : (l : ℕ) → Contains set.latches l → get_or (latch_values h.word) l false ≡ bit at.word l =
        λ l among.
        ap (λ (bits : List Bool). get_or bits l false) (sym one.values)
        ∙ (code_at (k * F.inputs) one.number l (latch_listed l among).0
        ∙ (sym (kept_bit one.number l ((listed_latches.each l).0 among).1) ∙ ap (λ (v : ℕ). bit v l) (sym found.2))) in
        let same_output : output_after F b h.word h.x ≡ output_after F b (content_of F k at.word) h.x =
        latches_decide F k b set reads h.x h.symbol h.word (content_of F k at.word) h.content (content_is_word F k at.word)
        (λ l among. read_bit l among ∙ latch_bit at.word l (latch_listed l among).0) in
        let gives_there : output_after F b (content_of F k at.word) h.x ≡ at.given =
        ap (output_after F b (content_of F k at.word)) (sym whole) ∙ asks at found.1 n low_n found.3 in
        let same_symbol : symbol_of at.cube.width n ≡ h.x = ap (λ (w : ℕ). symbol_of w n) of.width ∙ whole in
        record {
          at = at;
          among = found.1;
          gives = sym gives_there ∙ (sym same_output ∙ h.gives);
          is_read = (
            n,
            subst (λ (w : ℕ). n < 2 ^ w) (sym of.width) low_n,
            found.3,
            h.read_there
                ∙ (ap (λ (back : List Bool). map (input_of h.x) set.inputs ++ back)
                (map_same (λ l. get_or (latch_values h.word) l false) (bit at.word) set.latches (λ i d lt. read_bit (get_or set.latches i d) (Contains-get_or set.latches i d lt)))
                ∙ ap (λ (x : List Bool). column_values set.inputs set.latches x at.word) (sym same_symbol)),
          );
        }

    pub are_apart : NeverContradict set.inputs set.latches demands
    are_apart read one none = gives_one F k b set reads read (from_demand true read one) (from_demand false read none)

    pub gives_cover : (rows : List (List ℕ)) → IsGoodCover (IsAsked set.inputs set.latches true demands) (IsAsked set.inputs set.latches false demands) rows → IsGoodCover (GivesAfter F k b set true) (GivesAfter F k b set false) rows
    gives_cover rows good =
        same_cover (IsAsked set.inputs set.latches true demands) (IsAsked set.inputs set.latches false demands) (GivesAfter F k b set true) (GivesAfter F k b set false) rows
        (from_demand true) (to_demand true) (from_demand false) (to_demand false) good

    -- the gate of these rows
    pub output_gate_of : (names : SignalNames) (gate : Gate) → gate.on ≡ true → gate.output ≡ name_at names.outputs b → gate.inputs ≡ map (name_at names.inputs) set.inputs ++ map (name_at names.latch_outputs) set.latches
        → IsGoodCover (IsAsked set.inputs set.latches true demands) (IsAsked set.inputs set.latches false demands) gate.rows → All (λ row. length row ≡ column_count set.inputs set.latches) gate.rows → IsSorted (slice_cmp nat_cmp) gate.rows
        → IsOutputGate F k names b set gate
    output_gate_of names gate on output listed good widths in_order = record {
      reads = reads;
      inputs = listed;
      output = output;
      on = on;
      cover = gives_cover gate.rows good;
      widths = subst (λ (n : ℕ). All (λ row. length row ≡ n) gate.rows) (sym (listed_count names set.inputs set.latches gate.inputs listed)) widths;
      in_order = in_order;
    }

-- ---- with the values of a call
module _ (F : KissFile) (k b : ℕ) (table : List ℕ) (reading : OutputReading) (is : IsStateTable F k table) (basis : IsOutputReading F k b table reading) (short : k * F.inputs ≤ 12) (few : F.inputs ≤ 32) (of_output : b < F.outputs) where
  pub reads_at : IsReadAfter F k b reading.set
  reads_at = reads F k b table basis.firsts reading.classes.items reading.mask basis.inputs reading.set is basis.are basis.mapped short few of_output basis.latch_bits basis.input_bits basis.listed_latches basis.listed_inputs

  module _ (lent : List ℕ) (shown demands : List Demand) (is_lent : lent ≡ reading.classes.items) (is_shown : shown ≡ demands) (known : AreClassDemands F b lent (IsWithinMask reading.mask) demands) where
    known_here : AreClassDemands F b reading.classes.items (IsWithinMask reading.mask) shown
    known_here =
        subst (λ (list : List ℕ). AreClassDemands F b list (IsWithinMask reading.mask) shown) is_lent
        (subst (AreClassDemands F b lent (IsWithinMask reading.mask)) (sym is_shown) known)

    pub can_be_read_at : (inputs latches : List ℕ) → inputs ≡ reading.set.inputs → latches ≡ reading.set.latches → CanBeRead inputs latches shown
    can_be_read_at inputs latches same_inputs same_latches =
        subst (λ (list : List ℕ). CanBeRead inputs list shown) (sym same_latches)
        (subst (λ (list : List ℕ). CanBeRead list reading.set.latches shown) (sym same_inputs)
        (can_be_read F k b table basis.firsts reading.classes.items reading.mask basis.inputs reading.set is basis.are basis.mapped short few of_output basis.latch_bits basis.input_bits basis.listed_latches basis.listed_inputs shown known_here))

    pub are_apart_at : (inputs latches : List ℕ) → inputs ≡ reading.set.inputs → latches ≡ reading.set.latches → NeverContradict inputs latches shown
    are_apart_at inputs latches same_inputs same_latches =
        subst (λ (list : List ℕ). NeverContradict inputs list shown) (sym same_latches)
        (subst (λ (list : List ℕ). NeverContradict list reading.set.latches shown) (sym same_inputs)
        (are_apart F k b table basis.firsts reading.classes.items reading.mask basis.inputs reading.set is basis.are basis.mapped short few of_output basis.latch_bits basis.input_bits basis.listed_latches basis.listed_inputs shown known_here))

    -- the gate lists and covers what was lent
    pub output_gate_at : (inputs latches : List ℕ) (names : SignalNames) (gate : Gate) → inputs ≡ reading.set.inputs → latches ≡ reading.set.latches → gate.on ≡ true → gate.output ≡ name_at names.outputs b → gate.inputs ≡ map (name_at names.inputs) inputs ++ map (name_at names.latch_outputs) latches
        → IsGoodCover (IsAsked inputs latches true shown) (IsAsked inputs latches false shown) gate.rows → All (λ row. length row ≡ column_count inputs latches) gate.rows → IsSorted (slice_cmp nat_cmp) gate.rows
        → (set : ReadSet) × IsOutputGate F k names b set gate
    output_gate_at inputs latches names gate same_inputs same_latches on output listed good widths in_order = (
      reading.set,
      output_gate_of F k b table basis.firsts reading.classes.items reading.mask basis.inputs reading.set is basis.are basis.mapped short few of_output basis.latch_bits basis.input_bits basis.listed_latches basis.listed_inputs shown known_here names gate on output
          (listed ∙ (ap (λ (list : List ℕ). map (name_at names.inputs) list ++ map (name_at names.latch_outputs) latches) same_inputs ∙ ap (λ (list : List ℕ). map (name_at names.inputs) reading.set.inputs ++ map (name_at names.latch_outputs) list) same_latches))
          (subst (λ (list : List ℕ). IsGoodCover (IsAsked reading.set.inputs list true shown) (IsAsked reading.set.inputs list false shown) gate.rows) same_latches
          (subst (λ (list : List ℕ). IsGoodCover (IsAsked list latches true shown) (IsAsked list latches false shown) gate.rows) same_inputs good))
          (subst (λ (list : List ℕ). All (λ row. length row ≡ column_count reading.set.inputs list) gate.rows) same_latches
          (subst (λ (list : List ℕ). All (λ row. length row ≡ column_count list latches) gate.rows) same_inputs widths)) in_order,
    )

-- the classes of a table
pub classes_within : (F : KissFile) (b : ℕ) (firsts table classes : List ℕ) → AreFirsts F b (length F.states) firsts → All (λ s. s < length F.states) table → classes ≡ map (slice_index firsts) table → All (λ class. class < length F.states) classes
classes_within F b firsts table classes are within mapped =
    subst (All (λ class. class < length F.states)) (sym mapped)
    (All-map (λ class. class < length F.states) (slice_index firsts) table (λ i d lt. let first = are.each (get_or table i d) (within i d lt) in let low = within i d lt in omega (arith, first.within, low)))

pub sizes_within : (F : KissFile) (k : ℕ) (firsts table classes : List ℕ) → IsStateTable F k table → classes ≡ map (slice_index firsts) table → length classes ≡ 2 ^ (k * F.inputs)
sizes_within F k firsts table classes is mapped = ap length mapped ∙ (length-map table (slice_index firsts) ∙ is.size)

pub reading_is : (F : KissFile) (k b : ℕ) (table firsts lent shown : List ℕ) (bits inputs : ℕ) (reading : OutputReading) → IsStateTable F k table → AreFirsts F b (length F.states) firsts → lent ≡ firsts → reading.classes.items ≡ map (slice_index lent) table
    → shown ≡ reading.classes.items → bits ≡ k * F.inputs → ((l : ℕ) → InWord reading.mask l ↔ (l < bits × FlipMatters shown l)) → ((a : ℕ) → InWord inputs a ↔ MattersAmong F b table (length F.states) a)
    → AreListed reading.set.latches reading.mask 64 → AreListed reading.set.inputs inputs 64 → IsOutputReading F k b table reading
reading_is F k b table firsts lent shown bits inputs reading is are is_lent mapped is_shown is_bits latch_bits input_bits listed_latches listed_inputs =
    let classes : reading.classes.items ≡ map (slice_index firsts) table = mapped ∙ ap (λ (list : List ℕ). map (slice_index list) table) is_lent in
    record {
      firsts = firsts;
      are = are;
      mapped = classes;
      within = classes_within F b firsts table reading.classes.items are is.within classes;
      latch_bits = subst (λ (n : ℕ). (l : ℕ) → InWord reading.mask l ↔ (l < n × FlipMatters reading.classes.items l)) is_bits
          (subst (λ (list : List ℕ). (l : ℕ) → InWord reading.mask l ↔ (l < bits × FlipMatters list l)) is_shown latch_bits);
      inputs = inputs;
      input_bits = input_bits;
      listed_latches = listed_latches;
      listed_inputs = listed_inputs;
    }
