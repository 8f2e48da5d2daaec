use Rattle.std.proofs.Common.{take}
use Rattle.std.specs.List.{AllZip}
use Rattle.net_core.specs.Order.{IsNumbered}
use Rattle.net_core.proofs.numbering.Signals.gates.Given as goal

abbrev pub invariant-loop-gate : goal.invariant-loop-gate
invariant-loop-gate l = AllZip (IsNumbered l.self) (take l.gate-index l.gates) l.numbered
