use Rattle.std.proofs.Common.{drop}
use Rattle.cover_logic.proofs.LastRows.{AreOpen}
use Rattle.cover_logic.proofs.NeededRows.{AreKept}
use Rattle.cover_logic.proofs.lasts.needed_by_lasts.Given as goal

abbrev pub invariant-loop-i : goal.invariant-loop-i
invariant-loop-i l = AreKept l.on l.rows l.kept.items (drop l.i l.rows) × AreOpen l.width l.rows l.on l.kept.items l.chart.items
