use Rattle.std.proofs.Common.{drop}
use Rattle.cover_logic.proofs.NeededRows.{AreKept}
use Rattle.cover_logic.proofs.spare_rows.needed_by_passes.Given as goal

abbrev pub invariant-loop-i : goal.invariant-loop-i
invariant-loop-i l = AreKept l.on l.rows l.kept.items (drop l.i l.rows)
