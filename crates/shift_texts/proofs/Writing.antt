-- The network of a register can be written.
use Rattle.std.proofs.Common.{◌≡◌, ℕ, zero, suc, ◌+◌, ◌-◌, ◌*◌, ◌<◌, inl, inr, true, Some, List, [], ◌++◌, length, map, get_or, slice_get, All, refl, sym, ap, ◌∙◌, subst, arith}
use Rattle.std.specs.Cmp.Lexicographic.{slice_cmp}
use Rattle.std.specs.List.Sorted.{IsSorted}
use Rattle.std.specs.Ordering.{nat_cmp}
use Rattle.std.proofs.Math.Nat.{add-mul, suc-mul}
use Rattle.std.proofs.lemmas.Bool.{cases_lt}
use Rattle.std.proofs.lemmas.List.Elements.{All-append, All-map, All-same, All-weaker, recursion_from_All}
use Rattle.std.proofs.lemmas.Option.{get_or_from_slice_get}
use Rattle.list_facts.specs.Laws.Everywhere.{all_from_map}
use Rattle.blif_out.specs.Order.{HasKnownStarts, HasRowsInOrder}
use Rattle.blif_out.specs.Writable.{IsPlane, IsSignalName, IsWritable, IsWritableGate, IsWritableLatch}
use Rattle.decomposition.specs.Laws.Writable.{AreSignalNames, cover_planes, known_starts, plane_character}
use Rattle.dependence.specs.declared.sets.ReadSet.{ReadSet}
use Rattle.kiss_file.specs.declared.file.KissFile.{KissFile}
use Rattle.net_core.specs.declared.Gate.{Gate}
use Rattle.net_core.specs.declared.Latch.{Latch}
use Rattle.net_core.specs.declared.Network.{Network}
use Rattle.net_core.specs.declared.SignalNames.{SignalNames}
use Rattle.gate_rows.specs.Names.{name_at}
use Rattle.shift_real.specs.Gates.{IsOutputGate, taking}
use Rattle.shift_real.specs.Register.{latch_values}
use Rattle.shift_real.specs.ShiftNetwork.{AreNamesFor, IsRegister}

-- names at numbers below their count
named_at : (names : List (List ℕ)) (count : ℕ) (numbers : List ℕ) → length names ≡ count → All IsSignalName names → All (λ a. a < count) numbers → All IsSignalName (map (name_at names) numbers)
named_at names count numbers counts are within = All-map IsSignalName (name_at names) numbers (λ k d lt. are (get_or numbers k d) [] (omega (arith, within k d lt, counts)))

-- a number below k times n is that of some symbol and some bit
place : (k n i : ℕ) → i < k * n → (j : ℕ) × (r : ℕ) × (j < k) × (r < n) × (j * n + r ≡ i)
place zero n i lt = absurd (omega (arith, lt))
place (suc k) n i lt =
    elim (cases_lt i (k * n)) [
      | inl below ↦ let found = place k n i below in (found.0, found.1, omega (arith, found.2), found.3, found.4)
      | inr above ↦ (k, i - k * n, omega arith, omega (arith, lt, suc-mul k n, above), omega (arith, above))
    ]

-- ---- gates
-- a gate can be written, with its rows in order
abbrev IsReady : Gate → Type 0
IsReady gate = IsWritableGate gate × IsSorted (slice_cmp nat_cmp) gate.rows

taking_ready : (signal name : List ℕ) → IsSignalName signal → IsSignalName name → IsReady (taking signal name)
taking_ready signal name is_signal is_name = (
  record { inputs = (is_signal, tt); output = is_name; rows = (record { characters = (plane_character 49 true refl, tt); width = refl }, tt); on = refl },
  λ i d low high. absurd (omega (arith, high)),
)

module _ (W : KissFile) (k : ℕ) (names : SignalNames) (N : Network) (are : AreSignalNames names) (counted : AreNamesFor W k names) (is : IsRegister W k names N) where
  -- the gate of a latch takes a signal
  latch_gate_at : (i : ℕ) → i < k * W.inputs → (signal : List ℕ) × IsSignalName signal × (slice_get N.gates i ≡ Some (taking signal (name_at names.latch_inputs i)))
  latch_gate_at i lt = let found = place k W.inputs i lt in by found.0 found.1 found.2 found.3 found.4
    where
      by : (j r : ℕ) → j < k → r < W.inputs → j * W.inputs + r ≡ i → (signal : List ℕ) × IsSignalName signal × (slice_get N.gates i ≡ Some (taking signal (name_at names.latch_inputs i)))
      by zero r below within at =
          let same : r ≡ i = omega (arith, at) in (
            name_at names.inputs r,
            are.inputs r [] (omega (arith, within, counted.inputs)),
            subst (λ (n : ℕ). slice_get N.gates n ≡ Some (taking (name_at names.inputs r) (name_at names.latch_inputs n))) same (is.shifts.newest r within below),
          )
      by (suc j) r below within at =
          let same : (j + 1) * W.inputs + r ≡ i = omega (arith, at, suc-mul j W.inputs, add-mul j 1 W.inputs) in
          let older : ℕ = j * W.inputs + r in (
            name_at names.latch_outputs older,
            are.latch_outputs older [] (omega (arith, at, lt, suc-mul j W.inputs, counted.latch_outputs)),
            subst (λ (n : ℕ). slice_get N.gates n ≡ Some (taking (name_at names.latch_outputs older) (name_at names.latch_inputs n))) same (is.shifts.older j r within (omega (arith, below))),
          )

  output_ready : (b : ℕ) → b < W.outputs → (set : ReadSet) (gate : Gate) → IsOutputGate W k names b set gate → IsReady gate
  output_ready b lt set gate gate_is = (
    record {
      inputs = recursion_from_All IsSignalName gate.inputs (
          All-same IsSignalName gate.inputs (map (name_at names.inputs) set.inputs ++ map (name_at names.latch_outputs) set.latches) gate_is.inputs
          (All-append IsSignalName (map (name_at names.inputs) set.inputs) (map (name_at names.latch_outputs) set.latches)
          (named_at names.inputs W.inputs set.inputs counted.inputs are.inputs gate_is.reads.inputs_within)
          (named_at names.latch_outputs (k * W.inputs) set.latches counted.latch_outputs are.latch_outputs gate_is.reads.latches_within)));
      output = subst IsSignalName (sym gate_is.output) (are.outputs b [] (omega (arith, lt, counted.outputs)));
      rows = recursion_from_All (IsPlane (length gate.inputs)) gate.rows (λ i d within. record { characters = cover_planes _ _ gate.rows gate_is.cover i d within; width = gate_is.widths i d within });
      on = gate_is.on;
    },
    gate_is.in_order,
  )

  gates_ready : All IsReady N.gates
  gates_ready i d lt =
      elim (cases_lt i (k * W.inputs)) [
        | inl below ↦
            let at = latch_gate_at i below in
            subst IsReady (sym (get_or_from_slice_get N.gates i (taking at.0 (name_at names.latch_inputs i)) d at.2))
            (taking_ready at.0 (name_at names.latch_inputs i) at.1 (are.latch_inputs i [] (omega (arith, below, counted.latch_inputs))))
        | inr above ↦
            let b : ℕ = i - k * W.inputs in
            let same : k * W.inputs + b ≡ i = omega arith in
            let within : b < W.outputs = omega (arith, lt, is.gate_count) in
            let at = is.outputs b within in
            subst IsReady (sym (get_or_from_slice_get N.gates i at.1 d (sym (ap (slice_get N.gates) same) ∙ at.2))) (output_ready b within at.0 at.1 at.3)
      ]

  latches_writable : All IsWritableLatch N.latches
  latches_writable i d lt = record {
    input =
        all_from_map IsSignalName (λ (latch : Latch). latch.input) N.latches (All-same IsSignalName (map (λ latch. latch.input) N.latches) names.latch_inputs is.named.latch_inputs are.latch_inputs) i d lt;
    output =
        all_from_map IsSignalName (λ (latch : Latch). latch.output) N.latches (All-same IsSignalName (map (λ latch. latch.output) N.latches) names.latch_outputs is.named.latch_outputs are.latch_outputs) i d lt;
  }

  pub writable : IsWritable N
  writable = record {
    inputs = recursion_from_All IsSignalName N.inputs (All-same IsSignalName N.inputs names.inputs is.named.inputs are.inputs);
    outputs = recursion_from_All IsSignalName N.outputs (All-same IsSignalName N.outputs names.outputs is.named.outputs are.outputs);
    latches = recursion_from_All IsWritableLatch N.latches latches_writable;
    gates = recursion_from_All IsWritableGate N.gates (All-weaker IsReady IsWritableGate (λ gate ready. ready.0) N.gates gates_ready);
  }

  pub rows_in_order : HasRowsInOrder N
  rows_in_order =
      let InOrder : Gate → Type 0 = λ gate. IsSorted (slice_cmp nat_cmp) gate.rows in
      recursion_from_All InOrder N.gates (All-weaker IsReady InOrder (λ gate ready. ready.1) N.gates gates_ready)

  pub starts_known : HasKnownStarts N
  starts_known = known_starts N.latches (latch_values is.starts.0) is.starts.2
