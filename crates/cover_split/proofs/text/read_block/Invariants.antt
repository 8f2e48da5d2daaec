use Rattle.std.proofs.Common.{◌≡◌, length}
use Rattle.partition.specs.Text.{pieces_of}
use Rattle.cover_split.proofs.Reading.{IsReading}
use Rattle.cover_split.proofs.text.read_block.Given as goal

abbrev pub invariant-loop-piece : goal.invariant-loop-piece
invariant-loop-piece l = record {
  count : length l.block ≡ length l.yielded;
  so_far : IsReading l.n (pieces_of l.text) l.block l.low;
}
