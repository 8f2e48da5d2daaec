use Rattle.std.proofs.Common.{◌≡◌, map, sum, take}
use Rattle.comparisons.specs.Counts.{reads_of}
use Rattle.comparisons.proofs.network_counts.count_within.Given as goal

abbrev pub invariant-loop-latch : goal.invariant-loop-latch
invariant-loop-latch l = l.count ≡ sum (map (λ latch. reads_of l.gates latch.input l.outputs) (take l.latch-index l.latches))
