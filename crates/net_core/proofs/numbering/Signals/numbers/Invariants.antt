use Rattle.std.proofs.Common.{take}
use Rattle.net_core.specs.Order.{AreAt}
use Rattle.net_core.proofs.numbering.Signals.numbers.Given as goal

abbrev pub invariant-loop-name : goal.invariant-loop-name
invariant-loop-name l = AreAt l.self l.numbers (take l.name-index l.names)
