use Rattle.std.proofs.Common.{◌≡◌, take}
use Rattle.cubes.specs.Symbol.{number_of}
use Rattle.net_sim.proofs.symbols.number_in.Given as goal

abbrev pub invariant-loop-bit : goal.invariant-loop-bit
invariant-loop-bit l = l.number ≡ number_of (take l.bit-index l.symbol)
