use Rattle.std.proofs.Common.{ℕ, ◌≤◌, get_or}
use Rattle.partition.specs.Inner.JoinedRows.{AreRowNumbers, HaveNumbers}
use Rattle.partition.proofs.bits.joined_rows.number_labels.Given as goal

abbrev pub invariant-loop-i : goal.invariant-loop-i
invariant-loop-i l = record {
  numbered : AreRowNumbers l.labels l.numbers l.count;
  all : HaveNumbers l.labels l.rows l.width l.i l.numbers;
  kept : (label : ℕ) → 1 ≤ get_or l.initial.numbers label 0 → 1 ≤ get_or l.numbers label 0;
}
