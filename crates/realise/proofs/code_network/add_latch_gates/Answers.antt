use Rattle.std.proofs.Common.{◌≡◌, Some, length, slice_get, ap, subst, take, arith}
use Rattle.list_facts.specs.Laws.Everywhere.{all_at}
use Rattle.dependence.specs.SufficientBits.{next_value}
use Rattle.realise.specs.CodeNetwork.{IsGateFor, IsWithin}
use Rattle.realise.proofs.GateLists.{gates_all, gates_more, gates_none, item_there, items_count, items_more}
use Rattle.realise.proofs.code_network.add_latch_gates.Goals as goal

pub gate-requires-clause-within : goal.gate-requires-clause-within
gate-requires-clause-within c =
    all_at (IsWithin c.args.m.now.inputs c.args.codes.now.bits) c.args.reads.now.latches c.loop-i.i c.set-item.result c.requires.reads.latches_within
    (item_there c.args.reads.now.latches c.as_slice-set-items.result.now c.loop-i.i c.set-item.result c.as_slice-set-items.ensures c.loop-i-test.true c.set-item.is)

pub gate-requires-clause-enough : goal.gate-requires-clause-enough
gate-requires-clause-enough c =
    c.requires.reads.latches c.loop-i.i c.set-item.result
    (item_there c.args.reads.now.latches c.as_slice-set-items.result.now c.loop-i.i c.set-item.result c.as_slice-set-items.ensures c.loop-i-test.true c.set-item.is)

pub loop-i-preserved : goal.loop-i-preserved
loop-i-preserved c =
    let sets = c.args.reads.now.latches in
    let at : slice_get sets c.loop-i.i ≡ Some c.set-item.result =
    item_there sets c.as_slice-set-items.result.now c.loop-i.i c.set-item.result c.as_slice-set-items.ensures c.loop-i-test.true c.set-item.is in
    gates_more c.args.m.now c.args.codes.now.words c.args.names.now (next_value c.args.m.now c.args.codes.now.words) c.args.names.now.latch_inputs (take c.loop-i.i sets) _ c.set-item.result _ c.loop-i.gates _ c.in_ok-gate.field-0 c.loop-i.i
    (items_more sets c.loop-i.i c.set-item.result at) (items_count sets c.loop-i.i c.set-item.result at) c.loop-i.invariant
    (subst (λ name. IsGateFor c.args.m.now c.args.codes.now.words c.args.names.now c.set-item.result (next_value c.args.m.now c.args.codes.now.words c.loop-i.i) name c.in_ok-gate.field-0) c.in_ok-name.ensures c.in_ok-gate.ensures)
    c.in_ok-push.ensures.ok

pub loop-i-init : goal.loop-i-init
loop-i-init c = gates_none c.args.m.now c.args.codes.now.words c.args.names.now (next_value c.args.m.now c.args.codes.now.words) c.args.names.now.latch_inputs c.args.gates.now

pub returns : goal.returns
returns c =
    gates_all c.args.m.now c.args.codes.now.words c.args.names.now (next_value c.args.m.now c.args.codes.now.words) c.args.names.now.latch_inputs c.args.reads.now.latches c.args.gates.now c.loop-i.gates c.loop-i.i
    (omega (arith, c.loop-i-test.false, ap length c.as_slice-set-items.ensures)) c.loop-i.invariant
