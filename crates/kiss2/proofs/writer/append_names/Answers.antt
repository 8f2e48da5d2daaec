use Rattle.std.proofs.Common.{◌++◌, ap, sym, ◌∙◌}
use Rattle.list_facts.specs.Laws.Appending.{all_items, item_more}
use Rattle.hs_io.specs.Spelling.{spaced}
use Rattle.kiss2.proofs.writer.append_names.Goals as goal

pub loop-name-preserved : goal.loop-name-preserved
loop-name-preserved c =
    let text = c.loop-name.text.items in
    item_more spaced c.args.text.now.items text c.append_field.new.text.items c.args.names.now c.loop-name.name-index c.name-item.result c.loop-name-test.true (sym c.name-item.is) c.loop-name.invariant
    (c.in_ok-append_field.ensures ∙ ap (λ name. text ++ spaced name) c.bytes.ensures)

pub returns : goal.returns
returns c = all_items spaced c.args.text.now.items c.loop-name.text.items c.args.names.now c.loop-name.name-index c.loop-name-test.false c.loop-name.invariant
