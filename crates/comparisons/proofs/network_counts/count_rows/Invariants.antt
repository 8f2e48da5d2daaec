use Rattle.std.proofs.Common.{◌≡◌, length, map, sum, take}
use Rattle.comparisons.proofs.network_counts.count_rows.Given as goal

abbrev pub invariant-loop-gate : goal.invariant-loop-gate
invariant-loop-gate l = l.count ≡ sum (map (λ gate. length gate.rows) (take l.gate-index l.gates))
