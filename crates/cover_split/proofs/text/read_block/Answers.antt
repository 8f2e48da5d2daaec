use Rattle.std.proofs.Common.{◌≡◌, ◌<◌, ◌==◌, ◌+◌, ℕ, List, get_or, length, refl, sym, ap, ◌∙◌, subst, rules, arith}
use Rattle.std.proofs.lemmas.List.{length_push}
use Rattle.std.proofs.lemmas.List.Splits.{length-slice_split}
use Rattle.std.proofs.lemmas.Iterator.Consumers.{YieldsList-turn, YieldsList-end}
use Rattle.std.proofs.lemmas.Iterator.Splits.{YieldsList-from_slice_split}
use Rattle.cover_split.specs.Inner.Pieces.{IsFirstBadPiece}
use Rattle.partition.specs.Text.{pieces_of}
use Rattle.cover_split.proofs.Reading.{reading_bad, reading_more, reading_whole}
use Rattle.cover_split.proofs.text.read_block.Goals as goal

at_count : (pieces : List (List ℕ)) (count place : ℕ) (piece : List ℕ) → place ≡ count → (count < length pieces) × (piece ≡ get_or pieces count piece)
    → (place < length pieces) × (piece ≡ get_or pieces place piece)
at_count pieces count place piece same turn = subst (λ (k : ℕ). (k < length pieces) × (piece ≡ get_or pieces k piece)) (sym same) turn

pub returns-in_default : goal.returns-in_default
returns-in_default c =
    let gives = YieldsList-from_slice_split _ (λ byte. byte == 44) c.args.text.now (cc) (cc) (cc) (λ x b q called. search rules) in
    let turn = YieldsList-turn gives c.loop-piece.yielded _ c.loop-piece.yielded_by _ _ c.in-Some.piece c.in-Some.is c.next.ensures.steps in
    let here = at_count (pieces_of c.args.text.now) (length c.loop-piece.yielded) (length c.loop-piece.block) c.in-Some.piece.now c.loop-piece.invariant.count turn in (
      refl,
      subst (IsFirstBadPiece c.args.n (pieces_of c.args.text.now)) (ap length (sym c.as_slice.ensures))
          (reading_bad c.args.n (pieces_of c.args.text.now) c.loop-piece.block c.loop-piece.low c.in-Some.piece.now c.requires.1 c.loop-piece.invariant.so_far here c.in_default.ensures.none),
    )

pub loop-piece-preserved : goal.loop-piece-preserved
loop-piece-preserved c =
    let gives = YieldsList-from_slice_split _ (λ byte. byte == 44) c.args.text.now (cc) (cc) (cc) (λ x b q called. search rules) in
    let turn = YieldsList-turn gives c.loop-piece.yielded _ c.loop-piece.yielded_by _ _ c.in-Some.piece c.in-Some.is c.next.ensures.steps in
    let here = at_count (pieces_of c.args.text.now) (length c.loop-piece.yielded) (length c.loop-piece.block) c.in-Some.piece.now c.loop-piece.invariant.count turn in
    let known = c.in-Some-state_of.ensures.some in
    record {
      count = ap length c.in_ok-push.ensures.ok ∙ length_push c.loop-piece.block c.in-Some-state_of.state ∙ ap (λ (k : ℕ). k + 1) c.loop-piece.invariant.count ∙ sym (length_push c.loop-piece.yielded c.in-Some.piece);
      so_far = reading_more c.args.n (pieces_of c.args.text.now) c.loop-piece.block c.push.new.self c.loop-piece.low c.in-Some-state_of.state (c.in-Some-state_of.state + 1) c.in-Some.piece.now c.loop-piece.invariant.so_far
          known.0 known.1 here known.2 c.in_ok-push.ensures.ok refl;
    }

pub returns : goal.returns
returns c =
    let gives = YieldsList-from_slice_split _ (λ byte. byte == 44) c.args.text.now (cc) (cc) (cc) (λ x b q called. search rules) in
    let end = YieldsList-end gives c.loop-piece.yielded _ c.loop-piece.yielded_by _ _ c.in-None.is c.next.ensures.steps in
    reading_whole c.args.n c.args.text.now c.loop-piece.block c.loop-piece.low (omega (arith, length-slice_split (λ byte. byte == 44) c.args.text.now)) c.loop-piece.invariant.so_far
    (c.loop-piece.invariant.count ∙ end.1)
