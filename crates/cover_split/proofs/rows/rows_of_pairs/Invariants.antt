use Rattle.cover_split.specs.Inner.Rows.{AreRowsBelow}
use Rattle.cover_split.proofs.rows.rows_of_pairs.Given as goal

abbrev pub invariant-loop-i : goal.invariant-loop-i
invariant-loop-i l = AreRowsBelow l.m l.blocks l.i l.rows
