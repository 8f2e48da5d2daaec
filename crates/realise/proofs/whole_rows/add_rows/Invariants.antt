-- The rows of the state so far, behind those before.
use Rattle.std.proofs.Common.{◌≡◌, ◌++◌, take}
use Rattle.realise.proofs.whole_rows.add_rows.Given as goal

abbrev pub invariant-loop-row : goal.invariant-loop-row
invariant-loop-row l = l.filled.items ≡ l.initial.filled.items ++ take l.row-index l.row-items
