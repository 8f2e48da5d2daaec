use Rattle.partition.proofs.Gathering.{AreGathered}
use Rattle.partition.proofs.bits.joined_rows.gather.Given as goal

abbrev pub invariant-loop-i : goal.invariant-loop-i
invariant-loop-i l = AreGathered l.labels l.rows l.numbers l.initial.into l.into l.width l.i
