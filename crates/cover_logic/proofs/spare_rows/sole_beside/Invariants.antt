use Rattle.std.proofs.Common.{take}
use Rattle.cover_logic.proofs.NeededRows.{IsShared}
use Rattle.cover_logic.proofs.spare_rows.sole_beside.Given as goal

abbrev pub invariant-loop-term : goal.invariant-loop-term
invariant-loop-term l = IsShared l.fn.row (take l.term-index l.on) l.others.items
