-- The gates of the outputs so far.
use Rattle.std.proofs.Common.{take}
use Rattle.dependence.specs.SufficientBits.{output_value}
use Rattle.realise.specs.Inner.AddedGates.{AddsGates}
use Rattle.realise.proofs.code_network.add_output_gates.Given as goal

abbrev pub invariant-loop-b : goal.invariant-loop-b
invariant-loop-b l =
    AddsGates l.m l.codes.words l.names (output_value l.m) l.names.outputs (take l.b l.reads.outputs) l.initial.gates l.gates
