use Rattle.std.proofs.Common.{refl, All, ◌<◌, length, sym, subst, arith}
use Rattle.std.proofs.lemmas.Result.{IfOk-weaker}
use Rattle.shift_real.proofs.OutputGates.{are_apart_at, can_be_read_at, output_gate_at, reads_at}
use Rattle.shift_real.proofs.output_gates.output_gate.Goals as goal

pub content_demands-requires-clause-classes : goal.content_demands-requires-clause-classes
content_demands-requires-clause-classes c = subst (All (λ class. class < length c.args.m.now.states)) (sym c.deref.ensures.value) c.in_ok-reading.ensures.within

pub gate_of_demands-requires-clause-inputs : goal.gate_of_demands-requires-clause-inputs
gate_of_demands-requires-clause-inputs c =
    let reads = reads_at c.args.m.now c.args.k c.args.b c.args.table.now c.in_ok-reading.reading c.requires.table c.in_ok-reading.ensures c.requires.short c.keeps_its_states.ensures.table.inputs c.requires.output in
    λ i d lt. omega (arith, reads.inputs_within i d lt, c.requires.names.inputs)

pub gate_of_demands-requires-clause-latches : goal.gate_of_demands-requires-clause-latches
gate_of_demands-requires-clause-latches c =
    let reads = reads_at c.args.m.now c.args.k c.args.b c.args.table.now c.in_ok-reading.reading c.requires.table c.in_ok-reading.ensures c.requires.short c.keeps_its_states.ensures.table.inputs c.requires.output in
    λ i d lt. omega (arith, reads.latches_within i d lt, c.requires.names.latch_outputs)

pub gate_of_demands-requires-clause-read : goal.gate_of_demands-requires-clause-read
gate_of_demands-requires-clause-read c =
    can_be_read_at c.args.m.now c.args.k c.args.b c.args.table.now c.in_ok-reading.reading c.requires.table c.in_ok-reading.ensures c.requires.short c.keeps_its_states.ensures.table.inputs c.requires.output
    c.deref.result.now c.deref-2.result.now c.in_ok-demands.demands.items c.deref.ensures.value c.deref-2.ensures.value c.in_ok-demands.ensures
    _ _ refl refl

pub gate_of_demands-requires-clause-apart : goal.gate_of_demands-requires-clause-apart
gate_of_demands-requires-clause-apart c =
    are_apart_at c.args.m.now c.args.k c.args.b c.args.table.now c.in_ok-reading.reading c.requires.table c.in_ok-reading.ensures c.requires.short c.keeps_its_states.ensures.table.inputs c.requires.output
    c.deref.result.now c.deref-2.result.now c.in_ok-demands.demands.items c.deref.ensures.value c.deref-2.ensures.value c.in_ok-demands.ensures
    _ _ refl refl

pub returns : goal.returns
returns c =
    IfOk-weaker c.gate_of_demands.result _ _
    (λ gate is.
    output_gate_at c.args.m.now c.args.k c.args.b c.args.table.now c.in_ok-reading.reading c.requires.table c.in_ok-reading.ensures c.requires.short c.keeps_its_states.ensures.table.inputs c.requires.output
    c.deref.result.now c.deref-2.result.now c.in_ok-demands.demands.items c.deref.ensures.value c.deref-2.ensures.value c.in_ok-demands.ensures
    _ _ c.args.names.now gate refl refl is.on is.output is.listed is.cover is.widths is.in_order)
    c.gate_of_demands.ensures
