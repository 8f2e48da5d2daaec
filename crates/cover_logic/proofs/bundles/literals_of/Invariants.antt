use Rattle.std.proofs.Common.{◌≤◌}
use Rattle.cover_logic.proofs.Literals.{AreLaterLiterals}
use Rattle.cover_logic.proofs.bundles.literals_of.Given as goal

abbrev pub invariant-loop-column : goal.invariant-loop-column
invariant-loop-column l = AreLaterLiterals l.row l.column l.literals.items × (l.column ≤ 128)

abbrev pub decreases-loop-column : goal.decreases-loop-column
decreases-loop-column l = l.column
