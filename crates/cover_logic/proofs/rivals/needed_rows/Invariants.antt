use Rattle.std.proofs.Common.{drop}
use Rattle.cover_logic.specs.Inner.Bundles.{terms_in_bundles}
use Rattle.cover_logic.proofs.LeftRows.{AreLeft}
use Rattle.cover_logic.proofs.NeededRows.{AreKept}
use Rattle.cover_logic.proofs.rivals.needed_rows.Given as goal

abbrev pub invariant-loop-i : goal.invariant-loop-i
invariant-loop-i l = AreKept (terms_in_bundles l.on) l.rows l.kept.items (drop l.i l.rows) × AreLeft l.rows l.left l.kept.items l.i
