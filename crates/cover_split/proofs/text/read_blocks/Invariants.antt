use Rattle.std.proofs.Common.{◌≡◌, length}
use Rattle.cover_split.proofs.ReadingBlocks.{IsReadingBlocks}
use Rattle.cover_split.proofs.text.read_blocks.Given as goal

abbrev pub invariant-loop-piece : goal.invariant-loop-piece
invariant-loop-piece l = record {
  count : length l.found ≡ length l.yielded;
  so_far : IsReadingBlocks l.n l.text l.found;
}
