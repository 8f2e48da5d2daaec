use Rattle.std.proofs.Common.{◌≡◌, length}
use Rattle.partition.specs.Laws.FirstAppearance.{IsNumbering}
use Rattle.partition.proofs.numbering.numbered.Given as goal

abbrev pub invariant-loop-value : goal.invariant-loop-value
invariant-loop-value l = record {
  so_far : IsNumbering l.values l.value-index l.seen l.labels.items l.blocks;
  room : length l.seen ≡ l.bound;
}
