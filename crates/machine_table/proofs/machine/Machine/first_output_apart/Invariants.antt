use Rattle.std.proofs.Common.{true}
use Rattle.state_pairs.specs.Pairs.{IsFoundInBits}
use Rattle.machine_table.proofs.machine.Machine.first_output_apart.Given as goal

abbrev pub invariant-loop-b : goal.invariant-loop-b
invariant-loop-b l = IsFoundInBits l.self l.s l.t l.b true l.first
