-- The network of codes carries each step of the machine.
use Rattle.std.proofs.Common.{◌≡◌, ℕ, ◌+◌, ◌<◌, Bool, true, false, not, inl, inr, if◌then◌else◌, List, [], ◌++◌, length, map, get_or, slice_index, refl, sym, ap, subst, ◌∙◌, arith}
use Rattle.std.specs.List.{list_any}
use Rattle.std.proofs.lemmas.Bool.{cases_Bool}
use Rattle.std.proofs.lemmas.List.{ext_get_or, get_or-map, length-map, map-append}
use Rattle.std.proofs.lemmas.List.FromFn.{get_or-map-range_with_len, length-map-range_with_len}
use Rattle.std.proofs.lemmas.Simd.{map-map}
use Rattle.list_facts.specs.Laws.Everywhere.{all_at, map_same}
use Rattle.cubes.specs.Symbol.{bit}
use Rattle.dependence.specs.declared.sets.ReadSet.{ReadSet}
use Rattle.dependence.specs.declared.sets.Reads.{Reads}
use Rattle.dependence.specs.SufficientBits.{next_value, output_value}
use Rattle.gate_rows.specs.Columns.{input_of}
use Rattle.kiss_file.specs.declared.file.KissFile.{KissFile}
use Rattle.kiss_file.specs.Machine.{next, out, output_bit}
use Rattle.net_core.specs.declared.Gate.{Gate}
use Rattle.net_core.specs.declared.Latch.{Latch}
use Rattle.net_core.specs.declared.Network.{Network}
use Rattle.net_core.specs.declared.SignalNames.{SignalNames}
use Rattle.net_core.specs.Step.{AreStarts, Gives, IsValuation, Step, gate_value, row_holds}
use Rattle.net_core.specs.Laws.Flat.{flat_sound, given_step}
use Rattle.net_core.specs.Laws.Valuations.{FitsGate}
use Rattle.realise.specs.Codes.{code_of}
use Rattle.realise.specs.Laws.{ArePairwiseDistinct, RealisedCarries}
use Rattle.realise.specs.CodeNetwork.{AreCounted, AreEnough, HasGate, IsGateFor, IsRealised, IsWithin, name_at}
use Rattle.realise.specs.Rows.{read_values}
use Rattle.realise.proofs.FlatNetworks.{realised_flat}
use Rattle.realise.specs.Laws.Gates.{latch_count, latch_gate, output_gate}

-- ---- the value of a gate
-- some row of the gate holds the values
abbrev is_held : Gate → List Bool → Bool
is_held gate read = list_any (λ row. row_holds row read) gate.rows

-- a gate gives its value at each state and symbol
gate_gives : (F : KissFile) (words : List ℕ) (names : SignalNames) (set : ReadSet) (value : ℕ → List Bool → Bool) (name : List ℕ) (gate : Gate)
    → IsGateFor F words names set value name gate → (s : ℕ) (x : List Bool) → s < length F.states → length x ≡ F.inputs → gate_value gate (read_values words set s x) ≡ value s x
gate_gives F words names set value name gate is s x within long = by (value s x) refl
  where
    by : (given : Bool) → value s x ≡ given → gate_value gate (read_values words set s x) ≡ value s x
    by true one =
        let held : is_held gate (read_values words set s x) ≡ true =
        is.cover.on_held (read_values words set s x) (record { s = s; x = x; state = within; symbol = long; read_there = refl; gives = one }) in
        ap (λ (test : Bool). if test then gate.on else not gate.on) held ∙ (is.on ∙ sym one)
    by false none =
        elim (cases_Bool (is_held gate (read_values words set s x))) [
          | inl held ↦ absurd (is.cover.off_free (read_values words set s x) (record { s = s; x = x; state = within; symbol = long; read_there = refl; gives = none }) held)
          | inr free ↦ ap (λ (test : Bool). if test then gate.on else not gate.on) free ∙ (ap not is.on ∙ sym none)
        ]

-- ---- the network
-- the value of a name at a place
value_at : (value : List ℕ → Bool) (names : List (List ℕ)) (bits : List Bool) (k : ℕ) → map value names ≡ bits → k < length names → value (name_at names k) ≡ get_or bits k false
value_at value names bits k is lt = sym (get_or-map value names k [] false lt) ∙ ap (λ (list : List Bool). get_or list k false) is

module _ (F : KissFile) (bits : ℕ) (words : List ℕ) (reads : Reads) (names : SignalNames) (N : Network) (counted : AreCounted F bits names) (enough : AreEnough F bits words reads) (real : IsRealised F bits words reads names N) where
  -- the code of a state has a bit for each latch
  same_code : (s : ℕ) → code_of (length N.latches) words s ≡ code_of bits words s
  same_code s = ap (λ (n : ℕ). code_of n words s) (latch_count F bits words reads names N counted enough real)

  input_count : length N.inputs ≡ F.inputs
  input_count = ap length real.inputs ∙ counted.inputs

  output_count : length N.outputs ≡ F.outputs
  output_count = ap length real.outputs ∙ counted.outputs

  module _ (s : ℕ) (x : List Bool) (within : s < length F.states) (long : length x ≡ F.inputs) (value : List ℕ → Bool) (is : IsValuation N (code_of (length N.latches) words s) x value) where
    -- what the valuation has for an input and for a latch output
    input_value : (a : ℕ) → a < F.inputs → value (name_at names.inputs a) ≡ input_of x a
    input_value a lt = value_at value names.inputs x a (ap (map value) (sym real.inputs) ∙ is.inputs) (omega (arith, lt, counted.inputs))

    state_value : (c : ℕ) → c < bits → value (name_at names.latch_outputs c) ≡ bit (slice_index words s) c
    state_value c lt =
        value_at value names.latch_outputs (code_of bits words s) c
        (ap (map value) (sym real.latch_outputs) ∙ (map-map value (λ (latch : Latch). latch.output) N.latches ∙ (is.latches ∙ same_code s))) (omega (arith, lt, counted.latch_outputs))
        ∙ get_or-map-range_with_len (bit (slice_index words s)) 0 bits c c false lt (omega arith)

    -- so for what a gate lists
    listed_values : (set : ReadSet) → IsWithin F.inputs bits set
        → map value (map (name_at names.inputs) set.inputs ++ map (name_at names.latch_outputs) set.latches) ≡ read_values words set s x
    listed_values set inside =
        let code : ℕ → Bool = bit (slice_index words s) in
        let ins : map value (map (name_at names.inputs) set.inputs) ≡ map (input_of x) set.inputs =
        map-map value (name_at names.inputs) set.inputs
        ∙ map_same (λ a. value (name_at names.inputs a)) (input_of x) set.inputs (λ k d lt. input_value (get_or set.inputs k d) (inside.inputs_within k d lt)) in
        let outs : map value (map (name_at names.latch_outputs) set.latches) ≡ map code set.latches =
        map-map value (name_at names.latch_outputs) set.latches
        ∙ map_same (λ c. value (name_at names.latch_outputs c)) code set.latches (λ k d lt. state_value (get_or set.latches k d) (inside.latches_within k d lt)) in
        map-append value (map (name_at names.inputs) set.inputs) (map (name_at names.latch_outputs) set.latches)
        ∙ (ap (λ (front : List Bool). front ++ map value (map (name_at names.latch_outputs) set.latches)) ins ∙ ap (λ (back : List Bool). map (input_of x) set.inputs ++ back) outs)

    -- and its output has its value
    gate_has : (at : ℕ) (set : ReadSet) (gives : ℕ → List Bool → Bool) (name : List ℕ) → IsWithin F.inputs bits set → HasGate F words names N at set gives name → value name ≡ gives s x
    gate_has at set gives name inside (gate, stands, right) =
        let fits : FitsGate value gate = all_at (FitsGate value) N.gates at gate is.gates stands in
        ap value (sym right.output)
        ∙ (fits
        ∙ (ap (λ (list : List (List ℕ)). gate_value gate (map value list)) right.inputs
        ∙ (ap (gate_value gate) (listed_values set inside) ∙ gate_gives F words names set gives name gate right s x within long)))

    -- the outputs are those of the machine
    gives_outputs : map value N.outputs ≡ out F s x
    gives_outputs =
        ap (map value) real.outputs
        ∙ ext_get_or false (map value names.outputs) (out F s x)
        (length-map names.outputs value ∙ (counted.outputs ∙ sym (length-map-range_with_len (output_bit F s x) 0 F.outputs)))
        (λ b lt.
        let below : b < length names.outputs = omega (arith, lt, length-map names.outputs value) in
        let few : b < F.outputs = omega (arith, below, counted.outputs) in
        let at = output_gate F bits words reads names N counted enough real b few in
        get_or-map value names.outputs b [] false below
        ∙ (gate_has (bits + b) at.0 (output_value F b) (name_at names.outputs b) (all_at (IsWithin F.inputs bits) reads.outputs b at.0 enough.outputs_within at.1) at.2
        ∙ sym (get_or-map-range_with_len (output_bit F s x) 0 F.outputs b b false few (omega arith))))

    -- and the latch inputs are the code of the next state
    gives_code : map (λ latch. value latch.input) N.latches ≡ code_of bits words (next F s x)
    gives_code =
        let code : ℕ → Bool = bit (slice_index words (next F s x)) in
        sym (map-map value (λ (latch : Latch). latch.input) N.latches)
        ∙ (ap (map value) real.latch_inputs
        ∙ ext_get_or false (map value names.latch_inputs) (code_of bits words (next F s x))
        (length-map names.latch_inputs value ∙ (counted.latch_inputs ∙ sym (length-map-range_with_len code 0 bits)))
        (λ i lt.
        let below : i < length names.latch_inputs = omega (arith, lt, length-map names.latch_inputs value) in
        let few : i < bits = omega (arith, below, counted.latch_inputs) in
        let at = latch_gate F bits words reads names N counted enough real i few in
        get_or-map value names.latch_inputs i [] false below
        ∙ (gate_has i at.0 (next_value F words i) (name_at names.latch_inputs i) (all_at (IsWithin F.inputs bits) reads.latches i at.0 enough.latches_within at.1) at.2
        ∙ sym (get_or-map-range_with_len code 0 bits i i false few (omega arith)))))

    gives_next : Gives N value (out F s x) (code_of (length N.latches) words (next F s x))
    gives_next = record { outputs = gives_outputs; latch_inputs = gives_code ∙ sym (same_code (next F s x)) }

  -- so the network steps from code to code
  steps_to_next : ArePairwiseDistinct names → (s : ℕ) (x : List Bool) → s < length F.states → length x ≡ F.inputs
      → Step N (code_of (length N.latches) words s) x (out F s x) (code_of (length N.latches) words (next F s x))
  steps_to_next distinct s x within long =
      given_step N (code_of (length N.latches) words s) x (out F s x) (code_of (length N.latches) words (next F s x))
      (flat_sound N (realised_flat F bits words reads names N counted distinct enough real)) (long ∙ sym input_count)
      (length-map-range_with_len (bit (slice_index words s)) 0 (length N.latches))
      (gives_next s x within long)

pub realised_carries : RealisedCarries
realised_carries F bits words reads names N stays counts counted distinct enough real =
    record {
      inputs = input_count F bits words reads names N counted enough real;
      outputs = output_count F bits words reads names N counted enough real;
      starts = subst (AreStarts N.latches) (sym (same_code F bits words reads names N counted enough real F.reset)) real.starts;
      steps = steps_to_next F bits words reads names N counted enough real distinct;
    }
