use Rattle.std.proofs.Common.{ℕ, List, ◌++◌, sym, ap, ◌∙◌}
use Rattle.hs_io.specs.Spelling.{spaced}
use Rattle.list_facts.specs.Laws.Appending.{item_more}
use Rattle.hs_texts.proofs.err_lines.append_names.Goals as goal

pub loop-name-preserved : goal.loop-name-preserved
loop-name-preserved c =
    item_more spaced c.args.text.now.items c.loop-name.text.items c.append_name.new.text.items c.args.names.now c.loop-name.name-index c.name-item.result c.loop-name-test.true (sym c.name-item.is) c.loop-name.invariant (c.in_ok-append_name.ensures ∙ ap (λ (name : List ℕ). c.loop-name.text.items ++ spaced name) c.bytes.ensures)
