use Rattle.std.proofs.Common.{◌∙◌, List, ◌++◌, ap, sym}
use Rattle.std.proofs.lemmas.List.{take_all}
use Rattle.std.specs.List.{flat_map}
use Rattle.net_core.specs.declared.Latch.{Latch}
use Rattle.list_facts.specs.Laws.Appending.{item_more}
use Rattle.blif_out.specs.Inner.Pieces.{latch_line}
use Rattle.blif_out.proofs.network_text.append_latches.Goals as goal

pub loop-latch-preserved : goal.loop-latch-preserved
loop-latch-preserved c = item_more (latch_line c.args.design.now) c.args.text.now.items c.loop-latch.text.items c.append_latch.new.text.items c.args.latches.now c.loop-latch.latch-index c.latch-item.result c.loop-latch-test.true (sym c.latch-item.is) c.loop-latch.invariant c.in_ok-append_latch.ensures

pub returns : goal.returns
returns c = c.loop-latch.invariant ∙ ap (λ (latches : List Latch). c.args.text.now.items ++ flat_map (latch_line c.args.design.now) latches) (take_all c.loop-latch.latch-index c.args.latches.now c.loop-latch-test.false)
