use Rattle.std.proofs.Common.{◌≡◌, map, sum, take}
use Rattle.comparisons.specs.Counts.{reads_by}
use Rattle.comparisons.proofs.network_counts.count_listed.Given as goal

abbrev pub invariant-loop-gate : goal.invariant-loop-gate
invariant-loop-gate l = l.count ≡ sum (map (reads_by l.signal l.outputs) (take l.gate-index l.gates))
