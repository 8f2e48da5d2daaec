use Rattle.cover_logic.specs.Inner.Rows.{IsGrown}
use Rattle.cover_logic.specs.Inner.Index.{terms_of}
use Rattle.cover_logic.proofs.wide_rows.grow.Given as goal

abbrev pub invariant-loop-other : goal.invariant-loop-other
invariant-loop-other l = IsGrown l.fn.seed (terms_of l.off) l.row
