use Rattle.std.proofs.Common.{◌≡◌, ◌+◌, ◌<◌, ℕ, List, All, length, map, sym, ◌∙◌, ap, subst, arith}
use Rattle.std.specs.List.{AllZip, flat_map}
use Rattle.std.proofs.lemmas.List.{length-map}
use Rattle.net_core.specs.declared.Gate.{Gate}
use Rattle.net_core.specs.declared.Latch.{Latch}
use Rattle.net_core.specs.declared.gate_order.NumberedGate.{NumberedGate}
use Rattle.net_core.specs.Causes.{AreOnce, IsCause}
use Rattle.net_core.specs.Order.{AreAt, IsNumbered}
use Rattle.net_core.specs.SoundNetwork.{driven_by, drivers_of}
use Rattle.net_core.specs.Inner.Walk.{IsGateCycle, IsSequence, ReadsWithin, reads_of}
use Rattle.net_core.proofs.Checked.{at_moved, cause_cycle, cause_gates, cause_latches, cause_outputs, inputs_within, signals_within, sound_from_order, told_moved, zip_moved}
use Rattle.net_core.specs.Laws.Drivers.{count_drivers}
use Rattle.net_core.specs.Laws.Zipped.{zip_lengths}
use Rattle.net_core.proofs.Numbered.{all_within, at_exit}
use Rattle.net_core.proofs.Ordered.{named_cycle, gates_in_order}
use Rattle.net_core.proofs.checker.order_of.Goals as goal
use Rattle.net_core.proofs.checker.order_of.Goals.{In_ok-output_signals, In_ok-latch_signals, In_ok-gates, After-sequence}

-- what the parts of the work have shown
once_of : (c : In_ok-output_signals) → AreOnce (drivers_of c.args.net.now)
once_of c = subst AreOnce c.in_ok-signals.ensures.ok c.count-signal_count.ensures.once

outputs_of : (c : In_ok-output_signals) → AreAt (drivers_of c.args.net.now) c.in_ok-output_signals.output_signals.items c.args.net.now.outputs
outputs_of c =
    at_moved c.in_ok-signals.signals (drivers_of c.args.net.now) c.as_slice.result.now c.args.net.now.outputs c.in_ok-output_signals.output_signals.items
    c.in_ok-signals.ensures.ok c.as_slice.ensures c.in_ok-output_signals.ensures.ok

latches_of : (c : In_ok-latch_signals) → AreAt (drivers_of c.args.net.now) c.in_ok-latch_signals.latch_signals.items (map (λ latch. latch.input) c.args.net.now.latches)
latches_of c =
    let names : List Latch → List (List ℕ) = λ latches. map (λ latch. latch.input) latches in
    at_moved c.in_ok-signals.signals (drivers_of c.args.net.now) (names c.as_slice-2.result.now) (names c.args.net.now.latches) c.in_ok-latch_signals.latch_signals.items
    c.in_ok-signals.ensures.ok (ap names c.as_slice-2.ensures) c.in_ok-latch_signals.ensures.ok

gates_of : (c : In_ok-gates) → AllZip (IsNumbered (drivers_of c.args.net.now)) c.args.net.now.gates c.in_ok-gates.gates.items
gates_of c =
    zip_moved c.in_ok-signals.signals (drivers_of c.args.net.now) c.as_slice-3.result.now c.args.net.now.gates c.in_ok-gates.gates.items
    c.in_ok-signals.ensures.ok c.as_slice-3.ensures c.in_ok-gates.ensures.ok

pub returns-in_err-output_signals-clause-cause : goal.returns-in_err-output_signals-clause-cause
returns-in_err-output_signals-clause-cause c =
    let N = c.args.net.now in
    let fail = c.in_err-output_signals.field-0.0 in
    at_exit (IsCause N) c.from_residual-in_err-output_signals.result fail c.from_residual-in_err-output_signals.ensures.1
    (cause_outputs N (subst AreOnce c.in_ok-signals.ensures.ok c.count-signal_count.ensures.once) fail
    (told_moved c.in_ok-signals.signals (drivers_of N) c.as_slice.result.now N.outputs fail c.in_ok-signals.ensures.ok c.as_slice.ensures c.in_err-output_signals.ensures.err))

pub returns-in_err-latch_signals-clause-cause : goal.returns-in_err-latch_signals-clause-cause
returns-in_err-latch_signals-clause-cause c =
    let N = c.args.net.now in
    let before = (goal.at.returns-in_err-latch_signals-clause-cause c).In_ok-output_signals in
    let fail = c.in_err-latch_signals.field-0.0 in
    let names : List Latch → List (List ℕ) = λ latches. map (λ latch. latch.input) latches in
    at_exit (IsCause N) c.from_residual-in_err-latch_signals.result fail c.from_residual-in_err-latch_signals.ensures.1
    (cause_latches N (once_of before) c.in_ok-output_signals.output_signals.items fail (outputs_of before)
    (told_moved c.in_ok-signals.signals (drivers_of N) (names c.as_slice-2.result.now) (names N.latches) fail c.in_ok-signals.ensures.ok (ap names c.as_slice-2.ensures) c.in_err-latch_signals.ensures.err))

pub returns-in_err-gates-clause-cause : goal.returns-in_err-gates-clause-cause
returns-in_err-gates-clause-cause c =
    let N = c.args.net.now in
    let before = (goal.at.returns-in_err-gates-clause-cause c).In_ok-output_signals in
    let latches = (goal.at.returns-in_err-gates-clause-cause c).In_ok-latch_signals in
    let fail = c.in_err-gates.field-0.0 in
    let names : List Gate → List (List ℕ) = λ gates. flat_map (λ gate. gate.inputs) gates in
    at_exit (IsCause N) c.from_residual-in_err-gates.result fail c.from_residual-in_err-gates.ensures.1
    (cause_gates N (once_of before) c.in_ok-output_signals.output_signals.items c.in_ok-latch_signals.latch_signals.items fail (outputs_of before) (latches_of latches)
    (told_moved c.in_ok-signals.signals (drivers_of N) (names c.as_slice-3.result.now) (names N.gates) fail c.in_ok-signals.ensures.ok (ap names c.as_slice-3.ensures) c.in_err-gates.ensures.err))

pub sequence-requires : goal.sequence-requires
sequence-requires c =
    let N = c.args.net.now in
    let zip = gates_of (goal.at.sequence-requires c).In_ok-gates in
    let base : ℕ = length c.as_slice-input_count.result.now + length c.as_slice-latch_count.result.now in
    record {
      within = subst (λ (gates : List NumberedGate). ReadsWithin (base + length gates) (reads_of gates)) (sym c.deref.ensures.value)
          (signals_within N base c.in_ok-gates.gates.items (omega (arith, ap length c.as_slice-input_count.ensures, ap length c.as_slice-latch_count.ensures)) zip);
    }

-- a fact of the numbered gates, at the names of the network
at_network : (c : After-sequence) (P : ℕ → List (List ℕ) → Type 0) → P (length c.as_slice-input_count.result.now + length c.as_slice-latch_count.result.now) (reads_of c.deref.result.now)
    → P (length c.args.net.now.inputs + length c.args.net.now.latches) (reads_of c.in_ok-gates.gates.items)
at_network c P h =
    subst (λ (gates : List NumberedGate). P (length c.args.net.now.inputs + length c.args.net.now.latches) (reads_of gates)) c.deref.ensures.value
    (subst (λ (base : ℕ). P base (reads_of c.deref.result.now)) (omega (arith, ap length c.as_slice-input_count.ensures, ap length c.as_slice-latch_count.ensures)) h)

pub invariant_of-result : goal.invariant_of-result
invariant_of-result c =
    let N = c.args.net.now in
    let at = (goal.at.invariant_of-result c).In_ok-gates in
    let before = (goal.at.invariant_of-result c).In_ok-output_signals in
    let latches = (goal.at.invariant_of-result c).In_ok-latch_signals in
    let walked = (goal.at.invariant_of-result c).After-sequence in
    let numbered = c.in_ok-gates.gates.items in
    let total : c.count-signal_count.result ≡ length (drivers_of N) = c.count-signal_count.ensures.count ∙ ap length c.in_ok-signals.ensures.ok in
    let same : length N.gates ≡ length numbered = zip_lengths (IsNumbered (drivers_of N)) N.gates numbered (gates_of at) in
    let counted : (length c.as_slice-input_count.result.now + length c.as_slice-latch_count.result.now) + length numbered ≡ c.count-signal_count.result =
    omega (arith, ap length c.as_slice-input_count.ensures, ap length c.as_slice-latch_count.ensures, count_drivers N, same, total) in
    let found : IsSequence (length N.inputs + length N.latches) (reads_of numbered) c.in-Ok.sequence.items =
    at_network walked (λ base reads. IsSequence base reads c.in-Ok.sequence.items) c.in-Ok.ensures.ok in
    record {
      counted = counted;
      outputs_within = λ k d lt. omega (arith, total, all_within (drivers_of N) c.in_ok-output_signals.output_signals.items N.outputs (outputs_of before) k d lt);
      latches_within = λ k d lt. omega (arith, total, all_within (drivers_of N) c.in_ok-latch_signals.latch_signals.items (map (λ latch. latch.input) N.latches) (latches_of latches) k d lt);
      inputs_within = λ k d lt i e inside. omega (arith, total, inputs_within (drivers_of N) N.gates numbered (gates_of at) k d lt i e inside);
      sequence_within = λ k d lt. omega (arith, found.within k d lt, length-map numbered (λ gate. gate.inputs.items));
    }

pub returns-in-Ok-clause-sound : goal.returns-in-Ok-clause-sound
returns-in-Ok-clause-sound c =
    let N = c.args.net.now in
    let at = (goal.at.returns-in-Ok-clause-sound c).In_ok-gates in
    let before = (goal.at.returns-in-Ok-clause-sound c).In_ok-output_signals in
    let latches = (goal.at.returns-in-Ok-clause-sound c).In_ok-latch_signals in
    let walked = (goal.at.returns-in-Ok-clause-sound c).After-sequence in
    let found = gates_in_order N c.in_ok-gates.gates.items (once_of before) (gates_of at) c.in-Ok.sequence.items
    (at_network walked (λ base reads. IsSequence base reads c.in-Ok.sequence.items) c.in-Ok.ensures.ok) in
    sound_from_order N (once_of before) c.in_ok-output_signals.output_signals.items c.in_ok-latch_signals.latch_signals.items c.in_ok-gates.gates.items (outputs_of before) (latches_of latches) (gates_of at)
    found.0 found.2 found.3

pub returns-in-Ok-clause-order : goal.returns-in-Ok-clause-order
returns-in-Ok-clause-order c =
    let N = c.args.net.now in
    let at = (goal.at.returns-in-Ok-clause-order c).In_ok-gates in
    let before = (goal.at.returns-in-Ok-clause-order c).In_ok-output_signals in
    let latches = (goal.at.returns-in-Ok-clause-order c).In_ok-latch_signals in
    let walked = (goal.at.returns-in-Ok-clause-order c).After-sequence in
    record {
      inputs = ap length c.as_slice-input_count.ensures;
      latches = ap length c.as_slice-latch_count.ensures;
      outputs = outputs_of before;
      latch_inputs = latches_of latches;
      gates = gates_of at;
      sequence = gates_in_order N c.in_ok-gates.gates.items (once_of before) (gates_of at) c.in-Ok.sequence.items
          (at_network walked (λ base reads. IsSequence base reads c.in-Ok.sequence.items) c.in-Ok.ensures.ok);
    }

pub driven_at-requires : goal.driven_at-requires
driven_at-requires c =
    let N = c.args.net.now in
    let zip = gates_of (goal.at.driven_at-requires c).In_ok-gates in
    let cycle : IsGateCycle (length c.as_slice-input_count.result.now + length c.as_slice-latch_count.result.now) (reads_of c.deref.result.now) c.in-Err-Cycle.cycle.items =
    rw c.in-Err-Cycle.field-0-is at c.in-Err-Cycle.ensures.err in
    let found : IsGateCycle (length N.inputs + length N.latches) (reads_of c.in_ok-gates.gates.items) c.in-Err-Cycle.cycle.items =
    at_network (goal.at.driven_at-requires c).After-sequence (λ base reads. IsGateCycle base reads c.in-Err-Cycle.cycle.items) cycle in
    let within : All (λ g. g < length N.gates) c.in-Err-Cycle.cycle.items =
    λ k d lt. omega (
      arith,
      found.within k d lt,
      length-map c.in_ok-gates.gates.items (λ gate. gate.inputs.items),
      zip_lengths (IsNumbered (drivers_of N)) N.gates c.in_ok-gates.gates.items zip,
    ) in
    subst (λ (gates : List Gate). All (λ g. g < length gates) c.deref-in-Err-Cycle.result.now) (sym c.as_slice-in-Err-Cycle.ensures)
    (subst (λ (places : List ℕ). All (λ g. g < length N.gates) places) (sym c.deref-in-Err-Cycle.ensures.value) within)

pub returns-in-Err-Cycle-clause-cause : goal.returns-in-Err-Cycle-clause-cause
returns-in-Err-Cycle-clause-cause c =
    let N = c.args.net.now in
    let at = (goal.at.returns-in-Err-Cycle-clause-cause c).In_ok-gates in
    let before = (goal.at.returns-in-Err-Cycle-clause-cause c).In_ok-output_signals in
    let latches = (goal.at.returns-in-Err-Cycle-clause-cause c).In_ok-latch_signals in
    let names = c.in_ok-driven_at-in-Err-Cycle.field-0 in
    let cycle : IsGateCycle (length c.as_slice-input_count.result.now + length c.as_slice-latch_count.result.now) (reads_of c.deref.result.now) c.in-Err-Cycle.cycle.items =
    rw c.in-Err-Cycle.field-0-is at c.in-Err-Cycle.ensures.err in
    let found : IsGateCycle (length N.inputs + length N.latches) (reads_of c.in_ok-gates.gates.items) c.in-Err-Cycle.cycle.items =
    at_network (goal.at.returns-in-Err-Cycle-clause-cause c).After-sequence (λ base reads. IsGateCycle base reads c.in-Err-Cycle.cycle.items) cycle in
    let named : AreAt (driven_by N.gates) c.in-Err-Cycle.cycle.items names =
    subst (λ (gates : List Gate). AreAt (driven_by gates) c.in-Err-Cycle.cycle.items names) c.as_slice-in-Err-Cycle.ensures
    (subst (λ (places : List ℕ). AreAt (driven_by c.as_slice-in-Err-Cycle.result.now) places names) c.deref-in-Err-Cycle.ensures.value c.in_ok-driven_at-in-Err-Cycle.ensures) in
    cause_cycle N (once_of before) c.in_ok-output_signals.output_signals.items c.in_ok-latch_signals.latch_signals.items c.in_ok-gates.gates.items (outputs_of before) (latches_of latches) (gates_of at) names
    (named_cycle N c.in_ok-gates.gates.items (once_of before) (gates_of at) c.in-Err-Cycle.cycle.items names found named)
