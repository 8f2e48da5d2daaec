use Rattle.std.proofs.Common.{◌≡◌, drop}
use Rattle.net_sim.specs.Inner.GateValues.{evaluated}
use Rattle.net_sim.proofs.step.evaluate.Given as goal

abbrev pub invariant-loop-place : goal.invariant-loop-place
invariant-loop-place l =
    evaluated l.base l.order.gates.items l.order.sequence.items l.initial.signals
    ≡ evaluated l.base l.order.gates.items (drop l.place-index l.place-items) l.signals
