use Rattle.std.proofs.Common.{ℕ, ◌<◌}
use Rattle.kiss_file.specs.declared.file.KissRow.{KissRow}
use Rattle.state_rows.specs.Columns.{HaveOneCube, IsAtPlace}
use Rattle.state_rows.proofs.classes.have_same_cubes.Given as goal

abbrev pub invariant-loop-i : goal.invariant-loop-i
invariant-loop-i l = (place : ℕ) (row other : KissRow) → place < l.i → IsAtPlace l.rows l.first place row → IsAtPlace l.rows l.second place other → HaveOneCube row other
