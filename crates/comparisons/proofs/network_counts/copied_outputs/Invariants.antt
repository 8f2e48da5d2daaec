use Rattle.std.proofs.Common.{◌≡◌, take}
use Rattle.comparisons.specs.Counts.{outputs_of}
use Rattle.comparisons.proofs.network_counts.copied_outputs.Given as goal

abbrev pub invariant-loop-latch : goal.invariant-loop-latch
invariant-loop-latch l = l.outputs ≡ outputs_of (take l.latch-index l.latches)
