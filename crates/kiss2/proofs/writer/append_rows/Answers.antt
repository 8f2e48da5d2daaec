use Rattle.std.proofs.Common.{◌++◌, sym, ap, ◌∙◌}
use Rattle.std.proofs.lemmas.List.Folds.{flat_map-map}
use Rattle.list_facts.specs.Laws.Appending.{all_items, item_more}
use Rattle.hs_io.specs.Spelling.{ended, line_text}
use Rattle.kiss2.specs.KissText.{fields_of_row}
use Rattle.kiss2.proofs.Written.{row_text}
use Rattle.kiss2.proofs.writer.append_rows.Goals as goal

pub loop-row-preserved : goal.loop-row-preserved
loop-row-preserved c =
    item_more (row_text c.args.names.now c.args.outputs) c.args.text.now.items c.loop-row.text.items c.append_row.new.text.items c.args.rows.now c.loop-row.row-index c.row-item.result c.loop-row-test.true (sym c.row-item.is)
    c.loop-row.invariant c.in_ok-append_row.ensures

pub returns : goal.returns
returns c =
    let start = c.args.text.now.items in
    let rows = c.args.rows.now in
    all_items (row_text c.args.names.now c.args.outputs) start c.loop-row.text.items rows c.loop-row.row-index c.loop-row-test.false c.loop-row.invariant
    ∙ ap (λ t. start ++ t) (sym (flat_map-map (λ fields. ended (line_text fields)) (fields_of_row c.args.names.now c.args.outputs) rows))
