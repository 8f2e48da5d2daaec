use Rattle.std.proofs.Common.{ℕ, ltb, List, ◌++◌, map, sym, ap, ◌∙◌, arith}
use Rattle.std.specs.List.{range_with_len}
use Rattle.std.proofs.lemmas.List.FromFn.{map-range_with_len_more}
use Rattle.hs_io.specs.Spelling.{line_text}
use Rattle.machine_reports.specs.StateTexts.{block_text}
use Rattle.machine_reports.proofs.StateNames.{blocks_before, joined_more}
use Rattle.machine_reports.proofs.state_texts.append_blocks.Goals as goal

pub loop-block-preserved : goal.loop-block-preserved
loop-block-preserved c =
    let old = c.args.text.now.items in
    let shown = block_text c.args.names.now c.args.part.now in
    let block = c.loop-block.block in
    joined_more old c.loop-block.text.items c.append_blank.new.text.items c.append_block.new.text.items (map shown (range_with_len 0 block)) (shown block) (ltb 0 block) (blocks_before shown block) c.loop-block.invariant c.in_ok-append_blank.ensures c.in_ok-append_block.ensures
    ∙ ap (λ (fields : List (List ℕ)). old ++ line_text fields) (sym (map-range_with_len_more shown 0 block block (omega arith)))
