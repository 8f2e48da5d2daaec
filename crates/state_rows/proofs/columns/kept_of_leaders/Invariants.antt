use Rattle.state_rows.specs.Columns.{AreKept}
use Rattle.state_rows.proofs.columns.kept_of_leaders.Given as goal

abbrev pub invariant-loop-leader : goal.invariant-loop-leader
invariant-loop-leader l = AreKept l.rows l.places l.leaders l.leader l.kept.items
