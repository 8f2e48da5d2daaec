-- The characters so far.
use Rattle.std.proofs.Common.{◌≡◌, map}
use Rattle.std.specs.List.{range_with_len}
use Rattle.gate_rows.specs.Inner.Texts.{byte_at}
use Rattle.gate_rows.proofs.texts.text_of.Given as goal

abbrev pub invariant-loop-column : goal.invariant-loop-column
invariant-loop-column l = l.text.items ≡ map (byte_at l.term) (range_with_len 0 l.column)
