use Rattle.cover_split.proofs.RowLemmas.{AreRowsFor}
use Rattle.cover_split.proofs.rows.add_rows.Given as goal

abbrev pub invariant-loop-joint : goal.invariant-loop-joint
invariant-loop-joint l = AreRowsFor l.m l.blocks l.at.number l.joints l.joint-index l.initial.rows l.rows
