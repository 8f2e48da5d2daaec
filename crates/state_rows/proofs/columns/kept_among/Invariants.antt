use Rattle.std.proofs.Common.{ℕ, ◌<◌, Contains, get_or}
use Rattle.state_rows.specs.Columns.{IsNamedByKept}
use Rattle.state_rows.proofs.columns.kept_among.Given as goal

abbrev pub invariant-loop-place : goal.invariant-loop-place
invariant-loop-place l = record {
  within : (j : ℕ) → Contains l.kept.items j → Contains l.order j;
  each : (i d : ℕ) → i < l.place-index → IsNamedByKept l.rows l.places l.states l.kept.items (get_or l.order i d);
}
