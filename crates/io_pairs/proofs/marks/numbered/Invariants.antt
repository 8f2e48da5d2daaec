use Rattle.std.proofs.Common.{◌≡◌, ◌+◌, length}
use Rattle.partition.specs.Laws.FirstAppearance.{IsNumbering}
use Rattle.io_pairs.specs.Inner.Marks.{AreMarksBefore, seen_in}
use Rattle.io_pairs.proofs.marks.numbered.Given as goal

abbrev pub invariant-loop-value : goal.invariant-loop-value
invariant-loop-value l = record {
  so_far : IsNumbering l.values l.value-index (seen_in l.turn l.marks) l.classes.items l.count;
  marked : AreMarksBefore (l.turn + 1) l.marks;
  room : length l.marks ≡ length l.initial.marks;
}
