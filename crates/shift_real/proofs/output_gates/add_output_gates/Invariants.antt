-- The gates of the outputs so far.
use Rattle.shift_real.specs.Inner.Latches.{AddsOutputGates}
use Rattle.shift_real.proofs.output_gates.add_output_gates.Given as goal

abbrev pub invariant-loop-b : goal.invariant-loop-b
invariant-loop-b l = AddsOutputGates l.m l.k l.names l.b l.initial.gates l.gates
