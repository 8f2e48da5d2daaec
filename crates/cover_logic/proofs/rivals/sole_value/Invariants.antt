use Rattle.std.proofs.Common.{take}
use Rattle.std.specs.List.{All}
use Rattle.cover_logic.proofs.NeededRows.{IsSharedAt}
use Rattle.cover_logic.proofs.rivals.sole_value.Given as goal

abbrev pub invariant-loop-entry : goal.invariant-loop-entry
invariant-loop-entry l = All (IsSharedAt l.fn.row l.others) (take l.entry-index l.entry-items)
