use Rattle.std.proofs.Common.{ℕ, List, ◌++◌, sym, ap, ◌∙◌, arith}
use Rattle.list_facts.specs.Laws.Appending.{all_numbered, numbered_more}
use Rattle.cover_texts.specs.Inner.Pieces.{block_line}
use Rattle.cover_texts.proofs.blocks.append_blocks.Goals as goal

pub loop-number-preserved : goal.loop-number-preserved
loop-number-preserved c =
    numbered_more block_line _ _ _ c.args.blocks.now c.loop-number.number _ c.loop-number-test.true (sym c.index-blocks-number.is) c.loop-number.invariant
    (c.in_ok-append_block.ensures ∙ ap (λ (b : List ℕ). c.loop-number.text.items ++ block_line (c.loop-number.number, b)) c.as_slice.ensures)

pub returns : goal.returns
returns c = all_numbered block_line _ _ c.args.blocks.now c.loop-number.number (omega arith) c.loop-number.invariant
