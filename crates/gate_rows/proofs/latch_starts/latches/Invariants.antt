-- The latches so far.
use Rattle.std.proofs.Common.{◌≡◌, map}
use Rattle.std.specs.List.{range_with_len}
use Rattle.gate_rows.specs.Latches.{latch_of}
use Rattle.gate_rows.proofs.latch_starts.latches.Given as goal

abbrev pub invariant-loop-i : goal.invariant-loop-i
invariant-loop-i l = l.latches ≡ map (latch_of l.names l.word) (range_with_len 0 l.i)
