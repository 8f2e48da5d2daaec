use Rattle.std.proofs.Common.{◌<◌, IfSome, Contains, List}
use Rattle.kiss_file.specs.declared.file.KissRow.{KissRow}
use Rattle.state_rows.specs.declared.bundles.RowBundle.{RowBundle}
use Rattle.state_rows.specs.Bundles.{IsComparable, IsFirstAgainst}
use Rattle.state_rows.proofs.RowBundles.{IsInFirst}
use Rattle.state_rows.proofs.contradiction.first_against.Given as goal

abbrev pub invariant-loop-bundle : goal.invariant-loop-bundle
invariant-loop-bundle l = record {
  below : IfSome l.first (λ i. i < l.number);
  found : (rows : List KissRow) → ((bundle : RowBundle) → Contains l.bundles bundle → IsComparable rows l.row bundle)
      → IsFirstAgainst rows (IsInFirst l.bundles l.bundle-index) l.number l.row l.first;
}
