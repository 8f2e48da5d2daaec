use Rattle.std.proofs.Common.{◌≡◌, ◌∙◌, Some, slice_get, ap, subst, take, arith}
use Rattle.list_facts.specs.Laws.Everywhere.{all_at}
use Rattle.dependence.specs.SufficientBits.{output_value}
use Rattle.realise.specs.CodeNetwork.{IsGateFor, IsWithin, name_at}
use Rattle.realise.proofs.GateLists.{gates_all, gates_more, gates_none, item_numbered, items_count, items_more}
use Rattle.realise.proofs.code_network.add_output_gates.Goals as goal

pub gate-requires-clause-within : goal.gate-requires-clause-within
gate-requires-clause-within c =
    let set = c.index-as_slice-from.result in
    all_at (IsWithin c.args.m.now.inputs c.args.codes.now.bits) c.args.reads.now.outputs c.loop-b.b set c.requires.reads.outputs_within
    (item_numbered c.args.reads.now.outputs c.as_slice.result.now c.loop-b.b c.from.result set c.as_slice.ensures c.from.ensures
    (omega (arith, c.outputs-b-end.ensures.count, c.requires.reads.output_count)) c.index-as_slice-from.is)

pub gate-requires-clause-enough : goal.gate-requires-clause-enough
gate-requires-clause-enough c =
    let set = c.index-as_slice-from.result in
    c.requires.reads.outputs c.loop-b.b set
    (item_numbered c.args.reads.now.outputs c.as_slice.result.now c.loop-b.b c.from.result set c.as_slice.ensures c.from.ensures
    (omega (arith, c.outputs-b-end.ensures.count, c.requires.reads.output_count)) c.index-as_slice-from.is)

pub loop-b-preserved : goal.loop-b-preserved
loop-b-preserved c =
    let sets = c.args.reads.now.outputs in
    let set = c.index-as_slice-from.result in
    let at : slice_get sets c.loop-b.b ≡ Some set =
    item_numbered sets c.as_slice.result.now c.loop-b.b c.from.result set c.as_slice.ensures c.from.ensures
    (omega (arith, c.outputs-b-end.ensures.count, c.requires.reads.output_count)) c.index-as_slice-from.is in
    gates_more c.args.m.now c.args.codes.now.words c.args.names.now (output_value c.args.m.now) c.args.names.now.outputs (take c.loop-b.b sets) _ set _ c.loop-b.gates _ c.in_ok-gate.field-0 c.loop-b.b
    (items_more sets c.loop-b.b set at) (items_count sets c.loop-b.b set at) c.loop-b.invariant
    (subst (λ name. IsGateFor c.args.m.now c.args.codes.now.words c.args.names.now set (output_value c.args.m.now c.loop-b.b) name c.in_ok-gate.field-0)
    (c.in_ok-name.ensures ∙ ap (name_at c.args.names.now.outputs) c.from-in-loop-b.ensures) c.in_ok-gate.ensures)
    c.in_ok-push.ensures.ok

pub loop-b-init : goal.loop-b-init
loop-b-init c = gates_none c.args.m.now c.args.codes.now.words c.args.names.now (output_value c.args.m.now) c.args.names.now.outputs c.args.gates.now

pub returns : goal.returns
returns c =
    gates_all c.args.m.now c.args.codes.now.words c.args.names.now (output_value c.args.m.now) c.args.names.now.outputs c.args.reads.now.outputs c.args.gates.now c.loop-b.gates c.loop-b.b
    (omega (arith, c.loop-b-test.false, c.outputs-b-end.ensures.count, c.requires.reads.output_count)) c.loop-b.invariant
