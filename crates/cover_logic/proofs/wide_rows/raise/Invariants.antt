use Rattle.cover_logic.proofs.Raising.{IsRaised}
use Rattle.cover_logic.proofs.wide_rows.raise.Given as goal

abbrev pub invariant-loop-column : goal.invariant-loop-column
invariant-loop-column g l = IsRaised l.fn.row (g.O.Off.terms l.off) l.width l.column l.raised × g.O.Off.can_ask l.off l.raised
