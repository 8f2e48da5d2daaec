use Rattle.std.proofs.Common.{ℕ, List, [], ◌++◌, sym, ap, ◌∙◌}
use Rattle.list_facts.specs.Laws.Appending.{item_more}
use Rattle.machine_reports.specs.StateTexts.{state_line}
use Rattle.machine_reports.proofs.listings.bit_lines.Goals as goal

pub loop-part-preserved : goal.loop-part-preserved
loop-part-preserved c =
    let line = state_line c.args.shown c.args.names.now in
    item_more line [] c.loop-part.text.items c.append_state_line-in-loop-part.new.text.items c.args.parts.now c.loop-part.part-index c.part-item.result c.loop-part-test.true (sym c.part-item.is) c.loop-part.invariant (c.in_ok-append_state_line.ensures ∙ ap (λ (labels : List ℕ). c.loop-part.text.items ++ line labels) c.in_ok-labels.ensures.labels)
