use Rattle.part_rows.proofs.OwnBits.{AreFirstBits}
use Rattle.part_rows.proofs.shown.bits_of_owner.Given as goal

abbrev pub invariant-loop-c : goal.invariant-loop-c
invariant-loop-c l = AreFirstBits l.owners l.j l.word l.c l.bits
