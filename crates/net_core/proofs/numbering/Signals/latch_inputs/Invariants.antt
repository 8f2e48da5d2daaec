use Rattle.std.proofs.Common.{map, take}
use Rattle.net_core.specs.Order.{AreAt}
use Rattle.net_core.proofs.numbering.Signals.latch_inputs.Given as goal

abbrev pub invariant-loop-latch : goal.invariant-loop-latch
invariant-loop-latch l = AreAt l.self l.numbers (map (λ latch. latch.input) (take l.latch-index l.latches))
