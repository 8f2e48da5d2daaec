-- The gates of the network of codes, one by one.
use Rattle.std.proofs.Common.{◌≡◌, ℕ, ◌+◌, ◌-◌, ◌<◌, inl, inr, Bool, Some, List, [], ◌++◌, length, get_or, slice_get, All, ap, sym, ◌∙◌, subst, arith, length-append}
use Rattle.std.proofs.lemmas.Bool.{cases_lt}
use Rattle.std.proofs.lemmas.List.{ext_get_or, get_or-append-add, get_or-map, get_or_append_left, length-map}
use Rattle.std.proofs.lemmas.Option.{get_or_from_slice_get, slice_get_within}
use Rattle.list_facts.specs.Laws.Everywhere.{all_at}
use Rattle.list_facts.specs.Laws.Places.{item_at}
use Rattle.dependence.specs.declared.sets.ReadSet.{ReadSet}
use Rattle.dependence.specs.declared.sets.Reads.{Reads}
use Rattle.dependence.specs.SufficientBits.{next_value, output_value}
use Rattle.kiss_file.specs.declared.file.KissFile.{KissFile}
use Rattle.net_core.specs.declared.Gate.{Gate}
use Rattle.net_core.specs.declared.Network.{Network}
use Rattle.net_core.specs.declared.SignalNames.{SignalNames}
use Rattle.net_core.specs.SoundNetwork.{driven_by}
use Rattle.realise.specs.CodeNetwork.{AreCounted, AreEnough, HasGate, IsGateFor, IsRealised, IsWithin, name_at}

-- a gate of some read set, value and name
pub record IsSomeGate (F : KissFile) (bits : ℕ) (words : List ℕ) (names : SignalNames) (gate : Gate) : Type 0 where
  pub set : ReadSet
  pub value : ℕ → List Bool → Bool
  pub name : List ℕ
  pub within : IsWithin F.inputs bits set
  pub is : IsGateFor F words names set value name gate

module _ (F : KissFile) (bits : ℕ) (words : List ℕ) (reads : Reads) (names : SignalNames) (N : Network) (counted : AreCounted F bits names) (enough : AreEnough F bits words reads) (real : IsRealised F bits words reads names N) where
  -- there are as many latches as bits
  pub latch_count : length N.latches ≡ bits
  latch_count = sym (length-map N.latches (λ latch. latch.input)) ∙ (ap length real.latch_inputs ∙ counted.latch_inputs)

  -- the gate of a latch
  pub latch_gate : (i : ℕ) → i < bits → (set : ReadSet) × (slice_get reads.latches i ≡ Some set) × HasGate F words names N i set (next_value F words i) (name_at names.latch_inputs i)
  latch_gate i lt =
      let found = item_at reads.latches i (omega (arith, lt, enough.latch_count)) in
      (found.0, found.1, real.latch_gates i found.0 found.1)

  -- the gate of an output
  pub output_gate : (b : ℕ) → b < F.outputs → (set : ReadSet) × (slice_get reads.outputs b ≡ Some set) × HasGate F words names N (bits + b) set (output_value F b) (name_at names.outputs b)
  output_gate b lt =
      let found = item_at reads.outputs b (omega (arith, lt, enough.output_count)) in
      (found.0, found.1, real.output_gates b found.0 found.1)

  -- each gate is one of these
  pub each_gate : All (IsSomeGate F bits words names) N.gates
  each_gate k d lt =
      elim (cases_lt k bits) [
        | inl below ↦
            let at = latch_gate k below in
            subst (IsSomeGate F bits words names) (sym (get_or_from_slice_get N.gates k at.2.0 d at.2.1))
            (record { set = at.0; value = next_value F words k; name = name_at names.latch_inputs k; within = all_at (IsWithin F.inputs bits) reads.latches k at.0 enough.latches_within at.1; is = at.2.2 })
        | inr above ↦
            let b : ℕ = k - bits in
            let same : bits + b ≡ k = omega arith in
            let at = output_gate b (omega (arith, lt, real.gate_count)) in
            subst (IsSomeGate F bits words names) (sym (get_or_from_slice_get N.gates k at.2.0 d (sym (ap (slice_get N.gates) same) ∙ at.2.1)))
            (record { set = at.0; value = output_value F b; name = name_at names.outputs b; within = all_at (IsWithin F.inputs bits) reads.outputs b at.0 enough.outputs_within at.1; is = at.2.2 })
      ]

  -- the output of the gate at a place
  driven_at : (k : ℕ) (gate : Gate) → slice_get N.gates k ≡ Some gate → get_or (driven_by N.gates) k [] ≡ gate.output
  driven_at k gate is =
      get_or-map (λ (g : Gate). g.output) N.gates k gate [] (slice_get_within N.gates k gate is) ∙ ap (λ (g : Gate). g.output) (get_or_from_slice_get N.gates k gate gate is)

  -- gates drive the latch inputs, and then the outputs
  pub driven_names : driven_by N.gates ≡ names.latch_inputs ++ names.outputs
  driven_names =
      let lengths : length (driven_by N.gates) ≡ bits + F.outputs = length-map N.gates (λ gate. gate.output) ∙ real.gate_count in
      ext_get_or [] (driven_by N.gates) (names.latch_inputs ++ names.outputs)
      (omega (arith, lengths, length-append names.latch_inputs names.outputs, counted.latch_inputs, counted.outputs))
      (λ k lt.
      elim (cases_lt k bits) [
        | inl below ↦
            let at = latch_gate k below in
            driven_at k at.2.0 at.2.1
            ∙ (at.2.2.output ∙ sym (get_or_append_left names.latch_inputs names.outputs [] k (omega (arith, below, counted.latch_inputs))))
        | inr above ↦
            let b : ℕ = k - bits in
            let same : bits + b ≡ k = omega arith in
            let place : length names.latch_inputs + b ≡ k = omega (arith, counted.latch_inputs) in
            let at = output_gate b (omega (arith, lt, lengths)) in
            driven_at k at.2.0 (sym (ap (slice_get N.gates) same) ∙ at.2.1)
            ∙ (at.2.2.output
            ∙ (sym (get_or-append-add names.latch_inputs names.outputs b []) ∙ ap (λ (n : ℕ). get_or (names.latch_inputs ++ names.outputs) n []) place))
      ])
