use Rattle.std.proofs.Common.{◌≡◌, take}
use Rattle.cubes.specs.Symbol.{number_of}
use Rattle.net_sim.specs.Inner.GateValues.{bits_at}
use Rattle.net_sim.proofs.gate_values.number_at.Given as goal

abbrev pub invariant-loop-number : goal.invariant-loop-number
invariant-loop-number l = l.bits ≡ number_of (bits_at l.signals (take l.number-index l.numbers))
