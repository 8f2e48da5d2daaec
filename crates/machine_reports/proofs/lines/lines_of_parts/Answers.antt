use Rattle.std.proofs.Common.{[], sym}
use Rattle.list_facts.specs.Laws.Appending.{item_more}
use Rattle.machine_reports.specs.StateTexts.{state_line}
use Rattle.machine_reports.proofs.lines.lines_of_parts.Goals as goal

pub loop-part-preserved : goal.loop-part-preserved
loop-part-preserved c =
    item_more (state_line c.args.shown c.args.names.now) [] c.loop-part.text.items c.append_state_line.new.text.items c.args.parts.now c.loop-part.part-index c.part-item.result c.loop-part-test.true (sym c.part-item.is) c.loop-part.invariant c.in_ok-append_state_line.ensures
