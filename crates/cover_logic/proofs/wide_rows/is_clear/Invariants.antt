use Rattle.std.proofs.Common.{take}
use Rattle.cover_logic.specs.Inner.Rows.{IsClear}
use Rattle.cover_logic.proofs.wide_rows.is_clear.Given as goal

abbrev pub invariant-loop-term : goal.invariant-loop-term
invariant-loop-term l = IsClear (take l.term-index l.terms) l.row
