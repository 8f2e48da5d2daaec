use Rattle.std.proofs.Common.{◌≡◌, ◌++◌, take, map}
use Rattle.net_core.proofs.numbering.Signals.add_latches.Given as goal

abbrev pub invariant-loop-latch : goal.invariant-loop-latch
invariant-loop-latch l = l.self ≡ l.initial.self ++ map (λ latch. latch.output) (take l.latch-index l.latches)
