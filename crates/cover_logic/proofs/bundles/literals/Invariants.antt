use Rattle.std.proofs.Common.{if◌then◌else◌}
use Rattle.cover_logic.proofs.Planes.{HasFirstLiterals}
use Rattle.cover_logic.proofs.bundles.literals.Given as goal

abbrev pub invariant-loop-place : goal.invariant-loop-place
invariant-loop-place l = HasFirstLiterals l.column (if l.one then 1 else 0) l.entries l.place l.places
