use Rattle.std.proofs.Common.{◌≡◌, map, sum, take}
use Rattle.comparisons.specs.Counts.{literals_in}
use Rattle.comparisons.proofs.network_counts.count_literals.Given as goal

abbrev pub invariant-loop-gate : goal.invariant-loop-gate
invariant-loop-gate l = l.count ≡ sum (map (λ gate. literals_in gate.rows) (take l.gate-index l.gates))
