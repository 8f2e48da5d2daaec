use Rattle.std.proofs.Common.{◌≡◌, take}
use Rattle.std.specs.List.{flat_map, zip}
use Rattle.comparisons.specs.Counts.{output_apart}
use Rattle.comparisons.proofs.network_counts.copied_apart.Given as goal

abbrev pub invariant-loop-i : goal.invariant-loop-i
invariant-loop-i l = l.outputs ≡ flat_map (output_apart l.part) (take l.i (zip l.latches l.notes))
