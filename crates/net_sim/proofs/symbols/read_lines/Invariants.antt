use Rattle.std.proofs.Common.{◌≡◌, ◌+◌, ◌≤◌, length, vec_len}
use Rattle.net_sim.specs.Inner.Numbers.{HasReadTo}
use Rattle.net_sim.proofs.symbols.read_lines.Given as goal

abbrev pub invariant-loop-rest : goal.invariant-loop-rest
invariant-loop-rest l = record {
  wide : vec_len l.symbol ≡ l.inputs;
  read : HasReadTo l.inputs l.bytes l.rest l.count l.numbers;
  few : l.count + length l.rest ≤ length l.bytes;
}

abbrev pub decreases-loop-rest : goal.decreases-loop-rest
decreases-loop-rest l = length l.rest
