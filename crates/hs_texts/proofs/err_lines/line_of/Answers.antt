use Rattle.std.proofs.Common.{[], get_or, ap, ◌∙◌, arith}
use Rattle.std.proofs.lemmas.List.{get_or_default}
use Rattle.list_facts.specs.Laws.Appending.{item_more, all_items}
use Rattle.hs_texts.specs.ErrLines.{as_line}
use Rattle.hs_texts.proofs.err_lines.line_of.Goals as goal

pub loop-piece-preserved : goal.loop-piece-preserved
loop-piece-preserved c =
    let pieces = c.args.pieces.now in
    let i = c.loop-piece.piece-index in
    let piece = get_or pieces i (record { ref_ptr = (0, 0); now = [] }) in
    item_more (λ piece. piece.now) [] c.loop-piece.text.items c.extend_from_slice.new.self.items pieces i piece c.loop-piece-test.true (get_or_default pieces i piece _ c.loop-piece-test.true) c.loop-piece.invariant c.in_ok-extend_from_slice.ensures.items

pub returns : goal.returns
returns c =
    c.in_ok-push.ensures.items ∙ ap as_line (all_items (λ piece. piece.now) [] c.loop-piece.text.items c.args.pieces.now c.loop-piece.piece-index (omega (arith, c.loop-piece-test.false)) c.loop-piece.invariant)
