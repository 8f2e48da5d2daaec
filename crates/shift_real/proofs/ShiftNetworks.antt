-- The network of a shift register is flat, steps from content to content, and answers as the machine does.
use Rattle.std.proofs.Common.{◌≡◌, ℕ, zero, suc, ◌+◌, ◌-◌, ◌*◌, ◌<◌, ◌≤◌, Bool, true, false, not, inl, inr, if◌then◌else◌, Contains, All, Some, List, [], ◌∷◌, ◌++◌, length, map, get_or, slice_get, take, refl, sym, ap, subst, ◌∙◌, arith, length-append}
use Rattle.std.specs.List.{list_any, range_with_len}
use Rattle.std.proofs.Math.Nat.{add-mul, mul-le-mul_right, suc-mul}
use Rattle.std.proofs.lemmas.Bool.{cases_Bool, cases_lt}
use Rattle.std.proofs.lemmas.List.{ext_get_or, get_or-append-add, get_or-append_right, get_or-map, get_or_append_left, get_or-take, length-map, length-take-le, map-append}
use Rattle.std.proofs.lemmas.List.Elements.{All-append, All-contains_itself, All-head, All-map, All-same, All-tail, All-weaker, Contains-append_left, Contains-append_right, Contains-get_or}
use Rattle.std.proofs.lemmas.List.FromFn.{get_or-map-range_with_len, length-map-range_with_len}
use Rattle.std.proofs.lemmas.Option.{get_or_from_slice_get, slice_get_within}
use Rattle.std.proofs.lemmas.Simd.{map-map}
use Rattle.list_facts.specs.Laws.Everywhere.{all_at, all_from_map, all_one, map_same}
use Rattle.dependence.specs.declared.sets.ReadSet.{ReadSet}
use Rattle.cubes.specs.Symbol.{lowest_bits}
use Rattle.gate_rows.specs.Columns.{input_of}
use Rattle.gate_rows.specs.Latches.{AreLatches}
use Rattle.gate_rows.specs.Names.{HasNames, name_at}
use Rattle.kiss_file.specs.declared.file.KissFile.{KissFile}
use Rattle.kiss_file.specs.Machine.{answers, out, output_bit}
use Rattle.machine_table.specs.NextStates.{NeverLeaves}
use Rattle.net_core.specs.declared.Gate.{Gate}
use Rattle.net_core.specs.declared.Latch.{Latch}
use Rattle.net_core.specs.declared.Network.{Network}
use Rattle.net_core.specs.declared.SignalNames.{SignalNames}
use Rattle.net_core.specs.FlatNetwork.{base_of}
use Rattle.net_core.specs.SoundNetwork.{Sound, driven_by, drivers_of}
use Rattle.net_core.specs.Step.{AreStarts, Gives, IsValuation, NetAnswers, gate_value, row_holds}
use Rattle.net_core.specs.Laws.Flat.{flat_sound, given_step}
use Rattle.net_core.specs.Laws.Members.{times, times-append}
use Rattle.net_core.specs.Laws.Valuations.{FitsGate}
use Rattle.realise.specs.CarriedMachine.{AnswersAs}
use Rattle.shift_real.specs.Inner.Positions.{outputs_along}
use Rattle.shift_real.proofs.Along.{answers_from}
use Rattle.shift_real.specs.DefiniteMachine.{Definite, IsOrder}
use Rattle.shift_real.specs.Gates.{IsOutputGate, output_after, taking, values_read}
use Rattle.shift_real.specs.Inner.Latches.{AddsOutputGates, IsOutputGateAt, latch_gate, taken_by}
use Rattle.shift_real.specs.Inner.ShiftGates.{AreShiftGates, IsShiftNetwork}
use Rattle.shift_real.specs.Register.{HasShortOrder, latch_values, shifted, state_after}
use Rattle.shift_real.specs.ShiftNetwork.{AreNamesFor, IsRegister, StartsAtContent, StepsAlong}
use Rattle.shift_real.specs.Start.{WritesStart}
use Rattle.shift_real.specs.Words.{IsWord}
use Rattle.shift_real.proofs.Blocks.{image_at}
use Rattle.shift_real.proofs.ContentWords.{values_length}
use Rattle.shift_real.proofs.Shifting.{latches_follow, shifted_word, states_follow}
use Rattle.shift_real.specs.Laws.StartContent.{order_once}

-- names at numbers below their count are among them
named : (names : List (List ℕ)) (count : ℕ) (numbers : List ℕ) → length names ≡ count → All (λ a. a < count) numbers → All (Contains names) (map (name_at names) numbers)
named names count numbers counts within =
    All-map (Contains names) (name_at names) numbers (λ k d lt. Contains-get_or names (get_or numbers k d) [] (omega (arith, within k d lt, counts)))

-- the value of a name at a place
value_at : (value : List ℕ → Bool) (names : List (List ℕ)) (bits : List Bool) (k : ℕ) → map value names ≡ bits → k < length names → value (name_at names k) ≡ get_or bits k false
value_at value names bits k is lt = sym (get_or-map value names k [] false lt) ∙ ap (λ (list : List Bool). get_or list k false) is

-- ---- the value of a gate
-- the gate of a latch gives what it takes
taking_gives : (signal name : List ℕ) (value : List ℕ → Bool) → gate_value (taking signal name) (map value (signal ∷ [])) ≡ value signal
taking_gives signal name value = by (value signal)
  where
    by : (bit : Bool) → gate_value (taking signal name) (bit ∷ []) ≡ bit
    by true = refl
    by false = refl

abbrev is_held : Gate → List Bool → Bool
is_held gate read = list_any (λ row. row_holds row read) gate.rows

-- the gate of an output gives the output after each content
output_gives : (F : KissFile) (k : ℕ) (names : SignalNames) (b : ℕ) (set : ReadSet) (gate : Gate) → IsOutputGate F k names b set gate → (word : List (List Bool)) (x : List Bool) → IsWord F k word → length x ≡ F.inputs
    → gate_value gate (values_read set word x) ≡ output_after F b word x
output_gives F k names b set gate is word x content long = by (output_after F b word x) refl
  where
    by : (given : Bool) → output_after F b word x ≡ given → gate_value gate (values_read set word x) ≡ output_after F b word x
    by true one =
        let held : is_held gate (values_read set word x) ≡ true =
        is.cover.on_held (values_read set word x) (record { word = word; x = x; content = content; symbol = long; read_there = refl; gives = one }) in
        ap (λ (test : Bool). if test then gate.on else not gate.on) held ∙ (is.on ∙ sym one)
    by false none =
        elim (cases_Bool (is_held gate (values_read set word x))) [
          | inl held ↦ absurd (is.cover.off_free (values_read set word x) (record { word = word; x = x; content = content; symbol = long; read_there = refl; gives = none }) held)
          | inr free ↦ ap (λ (test : Bool). if test then gate.on else not gate.on) free ∙ (ap not is.on ∙ sym none)
        ]

-- ---- the network
pub record IsBuilt (F : KissFile) (k : ℕ) (names : SignalNames) (N : Network) : Type 0 where
  pub named : HasNames N names
  pub gates : AreShiftGates F k names N.gates

module _ (F : KissFile) (k : ℕ) (names : SignalNames) (N : Network) (counted : AreNamesFor F k names) (built : IsBuilt F k names N) where
  abbrev bits : ℕ
  bits = k * F.inputs

  input_count : length N.inputs ≡ F.inputs
  input_count = ap length built.named.inputs ∙ counted.inputs

  latch_count : length N.latches ≡ bits
  latch_count = sym (length-map N.latches (λ latch. latch.input)) ∙ (ap length built.named.latch_inputs ∙ counted.latch_inputs)

  -- gates drive the latch inputs, and then the outputs
  driven_at : (i : ℕ) (gate : Gate) → slice_get N.gates i ≡ Some gate → get_or (driven_by N.gates) i [] ≡ gate.output
  driven_at i gate is =
      get_or-map (λ (g : Gate). g.output) N.gates i gate [] (slice_get_within N.gates i gate is) ∙ ap (λ (g : Gate). g.output) (get_or_from_slice_get N.gates i gate gate is)

  same_drives : driven_by N.gates ≡ names.latch_inputs ++ names.outputs
  same_drives =
      let lengths : length (driven_by N.gates) ≡ bits + F.outputs = length-map N.gates (λ gate. gate.output) ∙ built.gates.count in
      ext_get_or [] (driven_by N.gates) (names.latch_inputs ++ names.outputs)
      (omega (arith, lengths, length-append names.latch_inputs names.outputs, counted.latch_inputs, counted.outputs))
      (λ i lt.
      elim (cases_lt i bits) [
        | inl below ↦
            driven_at i (latch_gate names i) (built.gates.latches i below)
            ∙ sym (get_or_append_left names.latch_inputs names.outputs [] i (omega (arith, below, counted.latch_inputs)))
        | inr above ↦
            let b : ℕ = i - bits in
            let same : bits + b ≡ i = omega arith in
            let place : length names.latch_inputs + b ≡ i = omega (arith, counted.latch_inputs) in
            let at = built.gates.outputs b (omega (arith, lt, lengths)) in
            driven_at i at.1 (sym (ap (slice_get N.gates) same) ∙ at.2)
            ∙ (at.3.output
            ∙ (sym (get_or-append-add names.latch_inputs names.outputs b []) ∙ ap (λ (n : ℕ). get_or (names.latch_inputs ++ names.outputs) n []) place))
      ])

  same_base : base_of N ≡ names.inputs ++ names.latch_outputs
  same_base =
      ap (λ (ins : List (List ℕ)). ins ++ map (λ latch. latch.output) N.latches) built.named.inputs ∙ ap (λ (outs : List (List ℕ)). names.inputs ++ outs) built.named.latch_outputs

  same_drivers : drivers_of N ≡ names.inputs ++ (names.latch_outputs ++ (names.latch_inputs ++ names.outputs))
  same_drivers =
      ap (λ (ins : List (List ℕ)). ins ++ (map (λ latch. latch.output) N.latches ++ driven_by N.gates)) built.named.inputs
      ∙ (ap (λ (outs : List (List ℕ)). names.inputs ++ (outs ++ driven_by N.gates)) built.named.latch_outputs
      ∙ ap (λ (gates : List (List ℕ)). names.inputs ++ (names.latch_outputs ++ gates)) same_drives)

  once : (name : List ℕ) → times name (drivers_of N) ≤ 1
  once name =
      omega (
        arith,
        counted.distinct name,
        ap (times name) same_drivers,
        times-append name names.inputs (names.latch_outputs ++ (names.latch_inputs ++ names.outputs)),
        times-append name names.latch_outputs (names.latch_inputs ++ names.outputs),
        times-append name names.latch_inputs names.outputs,
        times-append name (names.inputs ++ names.outputs ++ names.latch_inputs) names.latch_outputs,
        times-append name (names.inputs ++ names.outputs) names.latch_inputs,
        times-append name names.inputs names.outputs,
      )

  -- each gate reads the base alone
  in_base : (list : List (List ℕ)) → All (Contains (names.inputs ++ names.latch_outputs)) list → All (Contains (base_of N)) list
  in_base list all = subst (λ (base : List (List ℕ)). All (Contains base) list) (sym same_base) all

  output_reads : (b : ℕ) (set : ReadSet) (gate : Gate) → IsOutputGate F k names b set gate → All (Contains (base_of N)) gate.inputs
  output_reads b set gate is =
      let base : List (List ℕ) = names.inputs ++ names.latch_outputs in
      let ins : List (List ℕ) = map (name_at names.inputs) set.inputs in
      let outs : List (List ℕ) = map (name_at names.latch_outputs) set.latches in
      let all : All (Contains base) (ins ++ outs) =
      All-append (Contains base) ins outs
      (All-weaker (Contains names.inputs) (Contains base) (λ name h. Contains-append_left names.inputs names.latch_outputs name h) ins
      (named names.inputs F.inputs set.inputs counted.inputs is.reads.inputs_within))
      (All-weaker (Contains names.latch_outputs) (Contains base) (λ name h. Contains-append_right names.inputs names.latch_outputs name h) outs
      (named names.latch_outputs bits set.latches counted.latch_outputs is.reads.latches_within)) in
      All-same (Contains (base_of N)) gate.inputs (ins ++ outs) is.inputs (in_base (ins ++ outs) all)

  latch_reads : (i : ℕ) → i < bits → All (Contains (base_of N)) (taken_by names i ∷ [])
  latch_reads i lt =
      in_base (taken_by names i ∷ []) (all_one (Contains (names.inputs ++ names.latch_outputs)) (taken_by names i)
      (Contains-get_or (names.inputs ++ names.latch_outputs) i [] (omega (arith, lt, length-append names.inputs names.latch_outputs, counted.latch_outputs))))

  all_read : All (λ gate. All (Contains (base_of N)) gate.inputs) N.gates
  all_read i d lt =
      elim (cases_lt i bits) [
        | inl below ↦
            subst (λ (gate : Gate). All (Contains (base_of N)) gate.inputs) (sym (get_or_from_slice_get N.gates i (latch_gate names i) d (built.gates.latches i below))) (latch_reads i below)
        | inr above ↦
            let b : ℕ = i - bits in
            let same : bits + b ≡ i = omega arith in
            let at = built.gates.outputs b (omega (arith, lt, built.gates.count)) in
            subst (λ (gate : Gate). All (Contains (base_of N)) gate.inputs) (sym (get_or_from_slice_get N.gates i at.1 d (sym (ap (slice_get N.gates) same) ∙ at.2))) (output_reads b at.0 at.1 at.3)
      ]

  outputs_driven : All (Contains (driven_by N.gates)) N.outputs
  outputs_driven =
      subst (λ (list : List (List ℕ)). All (Contains list) N.outputs) (sym same_drives)
      (All-same (Contains (names.latch_inputs ++ names.outputs)) N.outputs names.outputs built.named.outputs
      (All-weaker (Contains names.outputs) (Contains (names.latch_inputs ++ names.outputs)) (λ name h. Contains-append_right names.latch_inputs names.outputs name h) names.outputs (All-contains_itself names.outputs)))

  inputs_driven : All (Contains (driven_by N.gates)) (map (λ latch. latch.input) N.latches)
  inputs_driven =
      subst (λ (list : List (List ℕ)). All (Contains list) (map (λ latch. latch.input) N.latches)) (sym same_drives)
      (All-same (Contains (names.latch_inputs ++ names.outputs)) (map (λ latch. latch.input) N.latches) names.latch_inputs built.named.latch_inputs
      (All-weaker (Contains names.latch_inputs) (Contains (names.latch_inputs ++ names.outputs)) (λ name h. Contains-append_left names.latch_inputs names.outputs name h) names.latch_inputs (All-contains_itself names.latch_inputs)))

  pub is_sound : Sound N
  is_sound = flat_sound N (record {
    driven_once = once;
    reads = all_read;
    outputs = outputs_driven;
    latch_inputs = all_from_map (Contains (driven_by N.gates)) (λ (latch : Latch). latch.input) N.latches inputs_driven;
  })

  -- ---- one step
  module _ (word : List (List Bool)) (x : List Bool) (content : IsWord F k word) (long : length x ≡ F.inputs) (value : List ℕ → Bool) (is : IsValuation N (latch_values word) x value) where
    input_values : map value names.inputs ≡ x
    input_values = ap (map value) (sym built.named.inputs) ∙ is.inputs

    latch_outputs : map value names.latch_outputs ≡ latch_values word
    latch_outputs = ap (map value) (sym built.named.latch_outputs) ∙ (map-map value (λ (latch : Latch). latch.output) N.latches ∙ is.latches)

    taken_values : map value (names.inputs ++ names.latch_outputs) ≡ x ++ latch_values word
    taken_values =
        map-append value names.inputs names.latch_outputs
        ∙ (ap (λ (front : List Bool). front ++ map value names.latch_outputs) input_values ∙ ap (λ (back : List Bool). x ++ back) latch_outputs)

    -- what a latch takes at the next symbol
    latch_takes : (i : ℕ) → i < bits → value (name_at names.latch_inputs i) ≡ get_or (x ++ latch_values word) i false
    latch_takes i lt =
        let fits : FitsGate value (latch_gate names i) = all_at (FitsGate value) N.gates i (latch_gate names i) is.gates (built.gates.latches i lt) in
        fits
        ∙ (taking_gives (taken_by names i) (name_at names.latch_inputs i) value
        ∙ value_at value (names.inputs ++ names.latch_outputs) (x ++ latch_values word) i taken_values (omega (arith, lt, length-append names.inputs names.latch_outputs, counted.latch_outputs)))

    kept_length : length (take bits (x ++ latch_values word)) ≡ bits
    kept_length = length-take-le bits (x ++ latch_values word) (omega (arith, length-append x (latch_values word), values_length F k word content))

    next_values : map (λ latch. value latch.input) N.latches ≡ latch_values (shifted word x)
    next_values =
        sym (map-map value (λ (latch : Latch). latch.input) N.latches)
        ∙ (ap (map value) built.named.latch_inputs
        ∙ (ext_get_or false (map value names.latch_inputs) (take bits (x ++ latch_values word)) (length-map names.latch_inputs value ∙ (counted.latch_inputs ∙ sym kept_length))
        (λ i lt.
        let below : i < length names.latch_inputs = omega (arith, lt, length-map names.latch_inputs value) in
        let few : i < bits = omega (arith, below, counted.latch_inputs) in
        get_or-map value names.latch_inputs i [] false below ∙ (latch_takes i few ∙ sym (get_or-take bits (x ++ latch_values word) i false few)))
        ∙ sym (latches_follow F k word x content long)))

    -- what a gate of an output lists
    listed_values : (set : ReadSet) → All (λ a. a < F.inputs) set.inputs → All (λ l. l < bits) set.latches
        → map value (map (name_at names.inputs) set.inputs ++ map (name_at names.latch_outputs) set.latches) ≡ values_read set word x
    listed_values set ins_within latches_within =
        let latch : ℕ → Bool = λ l. get_or (latch_values word) l false in
        let ins : map value (map (name_at names.inputs) set.inputs) ≡ map (input_of x) set.inputs =
        map-map value (name_at names.inputs) set.inputs
        ∙ map_same (λ a. value (name_at names.inputs a)) (input_of x) set.inputs (λ i d lt. value_at value names.inputs x (get_or set.inputs i d) input_values (omega (arith, ins_within i d lt, counted.inputs))) in
        let outs : map value (map (name_at names.latch_outputs) set.latches) ≡ map latch set.latches =
        map-map value (name_at names.latch_outputs) set.latches
        ∙ map_same (λ l. value (name_at names.latch_outputs l)) latch set.latches (λ i d lt. value_at value names.latch_outputs (latch_values word) (get_or set.latches i d) latch_outputs (omega (arith, latches_within i d lt, counted.latch_outputs))) in
        map-append value (map (name_at names.inputs) set.inputs) (map (name_at names.latch_outputs) set.latches)
        ∙ (ap (λ (front : List Bool). front ++ map value (map (name_at names.latch_outputs) set.latches)) ins ∙ ap (λ (back : List Bool). map (input_of x) set.inputs ++ back) outs)

    output_there : (b : ℕ) → b < F.outputs → value (name_at names.outputs b) ≡ output_after F b word x
    output_there b lt =
        let at = built.gates.outputs b lt in
        let fits : FitsGate value at.1 = all_at (FitsGate value) N.gates (bits + b) at.1 is.gates at.2 in
        ap value (sym at.3.output)
        ∙ (fits
        ∙ (ap (λ (list : List (List ℕ)). gate_value at.1 (map value list)) at.3.inputs
        ∙ (ap (gate_value at.1) (listed_values at.0 at.3.reads.inputs_within at.3.reads.latches_within) ∙ output_gives F k names b at.0 at.1 at.3 word x content long)))

    output_values : map value N.outputs ≡ out F (state_after F word) x
    output_values =
        ap (map value) built.named.outputs
        ∙ ext_get_or false (map value names.outputs) (out F (state_after F word) x)
        (length-map names.outputs value ∙ (counted.outputs ∙ sym (length-map-range_with_len (output_bit F (state_after F word) x) 0 F.outputs)))
        (λ b lt.
        let below : b < length names.outputs = omega (arith, lt, length-map names.outputs value) in
        let few : b < F.outputs = omega (arith, below, counted.outputs) in
        get_or-map value names.outputs b [] false below
        ∙ (output_there b few ∙ sym (get_or-map-range_with_len (output_bit F (state_after F word) x) 0 F.outputs b b false few (omega arith))))

    gives_next : Gives N value (out F (state_after F word) x) (latch_values (shifted word x))
    gives_next = record { outputs = output_values; latch_inputs = next_values }

  pub steps_along : StepsAlong F k N
  steps_along word x content long =
      given_step N (latch_values word) x (out F (state_after F word) x) (latch_values (shifted word x)) is_sound (long ∙ sym input_count) (values_length F k word content ∙ sym latch_count)
      (gives_next word x content long)

  -- ---- words
  along_answers : NeverLeaves F → Definite F k → F.reset < length F.states → (inputs : List (List Bool)) → All (λ x. length x ≡ F.inputs) inputs → (word : List (List Bool)) → IsWord F k word
      → outputs_along shifted (λ w x. out F (state_after F w) x) word inputs ≡ answers F (state_after F word) inputs
  along_answers stays definite reset [] long word content = refl
  along_answers stays definite reset (x ∷ inputs) long word content =
      let here : length x ≡ F.inputs = All-head (λ y. length y ≡ F.inputs) x inputs long in
      ap (λ (more : List (List Bool)). out F (state_after F word) x ∷ more)
      (along_answers stays definite reset inputs (All-tail (λ y. length y ≡ F.inputs) x inputs long) (shifted word x) (shifted_word F k word x content here)
      ∙ ap (λ (s : ℕ). answers F s inputs) (states_follow F k word x stays definite reset content here))

  pub answers_as : NeverLeaves F → Definite F k → F.reset < length F.states → StartsAtContent F k N → AnswersAs F N
  answers_as stays definite reset starts = (
    latch_values starts.0,
    starts.2,
    λ inputs long.
        let goes = answers_from N (IsWord F k) latch_values shifted (λ w x. out F (state_after F w) x)
        (record {
          stays = λ w x content size. shifted_word F k w x content (size ∙ input_count);
          steps = λ w x content size. steps_along w x content (size ∙ input_count);
        }) starts.0 inputs starts.1.content (All-weaker (λ y. length y ≡ F.inputs) (λ y. length y ≡ length N.inputs) (λ y size. size ∙ sym input_count) inputs long) in
        subst (NetAnswers N (latch_values starts.0) inputs)
        (along_answers stays definite reset inputs long starts.0 starts.1.content ∙ ap (λ (s : ℕ). answers F s inputs) starts.1.reset) goes,
  )

  -- ---- what is promised
  pub is_register : StartsAtContent F k N → IsRegister F k names N
  is_register starts = record {
    named = built.named;
    starts = starts;
    gate_count = built.gates.count;
    shifts = record {
      newest = λ i within some.
          let lt : i < bits = newest_below k i F.inputs within some in
          built.gates.latches i lt
          ∙ ap (λ (signal : List ℕ). Some (taking signal (name_at names.latch_inputs i))) (get_or_append_left names.inputs names.latch_outputs [] i (omega (arith, within, counted.inputs)));
      older = λ j i within before.
          let at : ℕ = (j + 1) * F.inputs + i in
          let place : at ≡ F.inputs + (j * F.inputs + i) = omega (arith, add-mul j 1 F.inputs) in
          let back : at - F.inputs ≡ j * F.inputs + i = omega (arith, place) in
          built.gates.latches at (older_below k j i F.inputs within before)
          ∙ ap (λ (signal : List ℕ). Some (taking signal (name_at names.latch_inputs at)))
          (get_or-append_right names.inputs names.latch_outputs F.inputs at [] counted.inputs (omega (arith, place)) ∙ ap (name_at names.latch_outputs) back);
    };
    outputs = built.gates.outputs;
  } where
    newest_below : (k i n : ℕ) → i < n → 0 < k → i < k * n
    newest_below zero i n within some = absurd (omega (arith, some))
    newest_below (suc k) i n within some = omega (arith, within, suc-mul k n)

    older_below : (k j i n : ℕ) → i < n → j + 1 < k → (j + 1) * n + i < k * n
    older_below k j i n within before =
        let up : (j + 2) * n ≤ k * n = mul-le-mul_right n (omega (arith, before)) in
        omega (arith, up, within, add-mul j 1 n, add-mul j 2 n)

-- ---- with the values of a call
pub gates_built : (F : KissFile) (k : ℕ) (names : SignalNames) (none latch_gates gates : List Gate) (count : ℕ) → none ≡ [] → count ≡ k * F.inputs → latch_gates ≡ none ++ map (latch_gate names) (range_with_len 0 count)
    → AddsOutputGates F k names F.outputs latch_gates gates → AreShiftGates F k names gates
gates_built F k names none latch_gates gates count is_none is_count is added =
    let plain : latch_gates ≡ map (latch_gate names) (range_with_len 0 (k * F.inputs)) =
    is ∙ (ap (λ (front : List Gate). front ++ map (latch_gate names) (range_with_len 0 count)) is_none ∙ ap (λ (n : ℕ). map (latch_gate names) (range_with_len 0 n)) is_count) in
    let size : length latch_gates ≡ k * F.inputs = ap length plain ∙ length-map-range_with_len (latch_gate names) 0 (k * F.inputs) in
    record {
      count = omega (arith, added.count, size);
      latches = λ i lt. added.kept i (latch_gate names i) (ap (λ (list : List Gate). slice_get list i) plain ∙ image_at (latch_gate names) (k * F.inputs) i lt);
      outputs = λ b lt. subst (λ (n : ℕ). IsOutputGateAt F k names gates (n + b) b) size (added.each b lt);
    }

pub names_for : (F : KissFile) (names : SignalNames) (k : ℕ) → (j : ℕ) × HasShortOrder F j × AreNamesFor F j names → IsOrder F k → AreNamesFor F k names
names_for F names k (j, has, counted) is = subst (λ (n : ℕ). AreNamesFor F n names) (order_once F j k has.order is) counted

module _ (F : KissFile) (k word : ℕ) (names : SignalNames) (N : Network) (given : (j : ℕ) × HasShortOrder F j × AreNamesFor F j names) (is : IsOrder F k) (net : IsShiftNetwork F k word names N) where
  counted_here : AreNamesFor F k names
  counted_here = names_for F names k given is

  built_here : IsBuilt F k names N
  built_here = record { named = record { inputs = net.inputs; outputs = net.outputs; latch_inputs = net.latches.inputs; latch_outputs = net.latches.outputs }; gates = net.gates }

  pub sound_at : Sound N
  sound_at = is_sound F k names N counted_here built_here

  pub steps_at : (j : ℕ) → IsOrder F j → StepsAlong F j N
  steps_at j other = subst (λ (n : ℕ). StepsAlong F n N) (order_once F k j is other) (steps_along F k names N counted_here built_here)

  module _ (starts : (j : ℕ) → IsOrder F j → WritesStart F j word) where
    starts_here : StartsAtContent F k N
    starts_here =
        let start = starts k is in
        (start.word, start.is_start, subst (AreStarts N.latches) start.latches net.latches.starts)

    pub register_at : (j : ℕ) → IsOrder F j → IsRegister F j names N
    register_at j other = subst (λ (n : ℕ). IsRegister F n names N) (order_once F k j is other) (is_register F k names N counted_here built_here starts_here)

    pub answers_at : NeverLeaves F → F.reset < length F.states → AnswersAs F N
    answers_at stays reset = answers_as F k names N counted_here built_here stays is.definite reset starts_here
