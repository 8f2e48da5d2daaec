use Rattle.std.proofs.Common.{◌≡◌, length, drop}
use Rattle.partition.specs.Text.{pieces_of}
use Rattle.partition.proofs.Reading.{IsReading}
use Rattle.partition.proofs.text.read_labels.Given as goal

abbrev pub invariant-loop-piece : goal.invariant-loop-piece
invariant-loop-piece l = record {
  count : l.found ≡ length l.yielded;
  so_far : IsReading l.text l.n l.labels.items l.found l.blocks (drop l.found (pieces_of l.text));
}
