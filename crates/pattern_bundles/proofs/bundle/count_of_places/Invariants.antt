use Rattle.std.proofs.Common.{◌≤◌}
use Rattle.pattern_bundles.proofs.bundle.count_of_places.Given as goal

abbrev pub invariant-loop-places : goal.invariant-loop-places
invariant-loop-places l = l.places ≤ 64
