use Rattle.std.proofs.Common.{ℕ, ◌≡◌, ◌<◌, ◌+◌, ◌==◌, List, get_or, length, sym, ap, ◌∙◌, subst, rules, arith}
use Rattle.std.proofs.lemmas.List.{length_push}
use Rattle.std.proofs.lemmas.Result.{err_from_is_err_and}
use Rattle.std.proofs.lemmas.Iterator.Consumers.{YieldsList-turn, YieldsList-end}
use Rattle.std.proofs.lemmas.Iterator.Splits.{YieldsList-from_slice_split}
use Rattle.cover_split.proofs.ReadingBlocks.{blocks_fault, blocks_more, blocks_whole, parts_of, places_short}
use Rattle.cover_split.proofs.text.read_blocks.Goals as goal

at_count : (pieces : List (List ℕ)) (count place : ℕ) (piece : List ℕ) → place ≡ count → (count < length pieces) × (piece ≡ get_or pieces count piece)
    → (place < length pieces) × (piece ≡ get_or pieces place piece)
at_count pieces count place piece same turn = subst (λ (k : ℕ). (k < length pieces) × (piece ≡ get_or pieces k piece)) (sym same) turn

pub loop-piece-preserved : goal.loop-piece-preserved
loop-piece-preserved c =
    let gives = YieldsList-from_slice_split _ (λ byte. byte == 47) c.args.text.now (cc) (cc) (cc) (λ x b q called. search rules) in
    let turn = YieldsList-turn gives c.loop-piece.yielded _ c.loop-piece.yielded_by _ _ c.in-Some.piece c.in-Some.is c.next.ensures.steps in
    let here = at_count (parts_of c.args.text.now) (length c.loop-piece.yielded) (length c.loop-piece.found) c.in-Some.piece.now c.loop-piece.invariant.count turn in
    record {
      count = ap length c.in_ok-push.ensures.ok ∙ length_push c.loop-piece.found c.in_ok-block.block ∙ ap (λ (k : ℕ). k + 1) c.loop-piece.invariant.count ∙ sym (length_push c.loop-piece.yielded c.in-Some.piece);
      so_far = blocks_more c.args.n c.args.text.now c.loop-piece.found c.in-Some.piece.now c.loop-piece.invariant.so_far here c.in_ok-block.block c.push.new.self c.in_ok-block.ensures c.in_ok-push.ensures.ok;
    }

pub returns-in_err-block : goal.returns-in_err-block
returns-in_err-block c =
    let gives = YieldsList-from_slice_split _ (λ byte. byte == 47) c.args.text.now (cc) (cc) (cc) (λ x b q called. search rules) in
    let turn = YieldsList-turn gives c.loop-piece.yielded _ c.loop-piece.yielded_by _ _ c.in-Some.piece c.in-Some.is c.next.ensures.steps in
    let here = at_count (parts_of c.args.text.now) (length c.loop-piece.yielded) (length c.loop-piece.found) c.in-Some.piece.now c.loop-piece.invariant.count turn in
    let p = err_from_is_err_and c.from_residual.result c.from_residual.ensures.1 in
    rw (p.1, p.2)
    (blocks_fault c.args.n c.args.text.now c.loop-piece.found c.in-Some.piece.now c.loop-piece.invariant.so_far here (length c.as_slice.result.now) _ c.requires.1 (ap length c.as_slice.ensures) c.in_err-block.ensures)

pub returns : goal.returns
returns c =
    let gives = YieldsList-from_slice_split _ (λ byte. byte == 47) c.args.text.now (cc) (cc) (cc) (λ x b q called. search rules) in
    let end = YieldsList-end gives c.loop-piece.yielded _ c.loop-piece.yielded_by _ _ c.in-None.is c.next.ensures.steps in
    let is = blocks_whole c.args.n c.args.text.now c.loop-piece.found c.loop-piece.invariant.so_far (c.loop-piece.invariant.count ∙ end.1) in
    (is, omega (arith, places_short c.args.text.now c.loop-piece.found is.spelled))
