use Rattle.std.proofs.Common.{◌-◌, ◌≤◌, length}
use Rattle.state_rows.proofs.RowBundles.{AreBundlesBelow}
use Rattle.state_rows.proofs.bundles.bundles_of_numbers.Given as goal

abbrev pub invariant-loop-start : goal.invariant-loop-start
invariant-loop-start l = record {
  within : l.start ≤ length l.numbers;
  below : AreBundlesBelow l.rows l.numbers l.start l.bundles.items;
}

abbrev pub decreases-loop-start : goal.decreases-loop-start
decreases-loop-start l = length l.numbers - l.start
