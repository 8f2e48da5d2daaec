-- The gates so far were added.
use Rattle.std.proofs.Common.{◌≡◌, ◌++◌, map}
use Rattle.std.specs.List.{range_with_len}
use Rattle.shift_real.specs.Inner.Latches.{latch_gate}
use Rattle.shift_real.proofs.latches.add_latch_gates.Given as goal

abbrev pub invariant-loop-i : goal.invariant-loop-i
invariant-loop-i l = l.gates ≡ l.initial.gates ++ map (latch_gate l.names) (range_with_len 0 l.i)
