use Rattle.std.proofs.Common.{◌≡◌, map, sum, take}
use Rattle.std.specs.List.{zip}
use Rattle.comparisons.specs.Counts.{outputs_apart, reads_of}
use Rattle.comparisons.proofs.network_counts.count_across.Given as goal

abbrev pub invariant-loop-i : goal.invariant-loop-i
invariant-loop-i l =
    l.count ≡ sum (map (λ noted. reads_of l.gates noted.0.input (outputs_apart noted.1.part l.latches l.notes)) (take l.i (zip l.latches l.notes)))
