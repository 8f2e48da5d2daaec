-- The gates of the latches so far.
use Rattle.std.proofs.Common.{take}
use Rattle.dependence.specs.SufficientBits.{next_value}
use Rattle.realise.specs.Inner.AddedGates.{AddsGates}
use Rattle.realise.proofs.code_network.add_latch_gates.Given as goal

abbrev pub invariant-loop-i : goal.invariant-loop-i
invariant-loop-i l =
    AddsGates l.m l.codes.words l.names (next_value l.m l.codes.words) l.names.latch_inputs (take l.i l.reads.latches) l.initial.gates l.gates
