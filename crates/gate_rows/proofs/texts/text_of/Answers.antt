use Rattle.std.proofs.Common.{[]}
use Rattle.gate_rows.specs.Inner.Texts.{byte_at}
use Rattle.gate_rows.specs.Laws.Ranges.{map-range-push}
use Rattle.gate_rows.proofs.texts.text_of.Goals as goal

pub loop-column-preserved : goal.loop-column-preserved
loop-column-preserved c = map-range-push (byte_at c.args.term) [] _ _ _ _ c.loop-column.invariant c.in_ok-push.ensures.items c.byte_of.ensures
