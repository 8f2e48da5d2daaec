use Rattle.std.proofs.Common.{take}
use Rattle.cover_logic.specs.Inner.Tables.{IsMarkTableOf}
use Rattle.cover_logic.proofs.table.Table.of.Given as goal

abbrev pub invariant-loop-term : goal.invariant-loop-term
invariant-loop-term l = IsMarkTableOf l.width (take l.term-index l.terms) l.table
