use Rattle.std.proofs.Common.{ℕ, ◌<◌, get_or}
use Rattle.state_rows.specs.Columns.{NameOne}
use Rattle.state_rows.specs.Places.{places_of}
use Rattle.state_rows.proofs.columns.are_equal_columns.Given as goal

abbrev pub invariant-loop-s : goal.invariant-loop-s
invariant-loop-s l = (i d : ℕ) → i < l.s-index → NameOne l.rows (places_of l.places (get_or l.states i d)) l.first l.second
