use Rattle.std.proofs.Common.{◌≡◌, ◌++◌, take}
use Rattle.net_core.specs.SoundNetwork.{driven_by}
use Rattle.net_core.proofs.numbering.Signals.add_gates.Given as goal

abbrev pub invariant-loop-gate : goal.invariant-loop-gate
invariant-loop-gate l = l.self ≡ l.initial.self ++ driven_by (take l.gate-index l.gates)
