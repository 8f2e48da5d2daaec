use Rattle.std.proofs.Common.{◌++◌, map, arith}
use Rattle.net_core.specs.Inner.Failures.{TellsAgain}
use Rattle.net_core.proofs.Numbered.{again_at, at_exit}
use Rattle.net_core.proofs.numbering.Signals.add_gates.Goals as goal

pub returns-in_err-add-clause-err : goal.returns-in_err-add-clause-err
returns-in_err-add-clause-err c =
    at_exit (TellsAgain (c.args.self.now ++ map (λ gate. gate.output) c.args.gates.now)) c.from_residual.result c.in_err-add.field-0.0 c.from_residual.ensures.1
    (again_at (λ gate. gate.output) c.args.gates.now c.loop-gate.gate-index c.gate-item.result (omega arith) c.gate-item.is c.args.self.now c.loop-gate.self c.in_err-add.field-0.0 c.loop-gate.invariant c.in_err-add.ensures.err)
