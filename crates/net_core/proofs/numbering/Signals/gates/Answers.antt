use Rattle.std.proofs.Common.{◌+◌, List, take, sym, subst, arith}
use Rattle.std.specs.List.{AllZip, flat_map}
use Rattle.net_core.specs.declared.gate_order.NumberedGate.{NumberedGate}
use Rattle.net_core.specs.Order.{IsNumbered}
use Rattle.net_core.specs.Inner.Failures.{TellsOutside}
use Rattle.net_core.proofs.Numbered.{at_exit, gate_more, gate_outside}
use Rattle.net_core.proofs.numbering.Signals.gates.Goals as goal

pub returns-in_err-next-clause-err : goal.returns-in_err-next-clause-err
returns-in_err-next-clause-err c =
    at_exit (TellsOutside c.args.self.now (flat_map (λ gate. gate.inputs) c.args.gates.now)) c.from_residual.result c.in_err-next.field-0.0 c.from_residual.ensures.1
    (gate_outside c.args.gates.now c.loop-gate.gate-index c.gate-item.result (omega arith) c.gate-item.is c.args.self.now c.loop-gate.numbered c.loop-gate.invariant c.in_err-next.field-0.0 c.in_err-next.ensures.err)

pub loop-gate-preserved : goal.loop-gate-preserved
loop-gate-preserved c =
    subst (λ (numbered : List NumberedGate). AllZip (IsNumbered c.args.self.now) (take (c.loop-gate.gate-index + 1) c.args.gates.now) numbered) (sym c.in_ok-push.ensures.ok)
    (gate_more c.args.gates.now c.loop-gate.gate-index c.gate-item.result (omega arith) c.gate-item.is c.args.self.now c.loop-gate.numbered c.loop-gate.invariant c.in_ok-next.next c.in_ok-next.ensures.ok)
