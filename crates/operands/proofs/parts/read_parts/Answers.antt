use Rattle.std.proofs.Common.{◌==◌, ℕ, length, sym, ◌∙◌, subst, rules}
use Rattle.std.proofs.lemmas.List.{length_push}
use Rattle.std.proofs.lemmas.Iterator.Consumers.{YieldsList-turn, YieldsList-end}
use Rattle.std.proofs.lemmas.Iterator.Splits.{YieldsList-from_slice_split}
use Rattle.std.proofs.lemmas.Result.{err_from_is_err_and}
use Rattle.operands.proofs.PartsRead.{HaveBeenRead, accepted, read_more, refused}
use Rattle.operands.proofs.parts.read_parts.Goals as goal

pub loop-piece-preserved : goal.loop-piece-preserved
loop-piece-preserved c =
    let gives = YieldsList-from_slice_split _ (λ byte. byte == 47) c.args.text.now (cc) (cc) (cc) (λ x b q called. search rules) in
    let turn = YieldsList-turn gives c.loop-piece.yielded _ c.loop-piece.yielded_by _ _ c.in-Some.piece c.in-Some.is c.next.ensures.steps in
    subst (λ (count : ℕ). HaveBeenRead c.args.states c.args.text.now c.push.new.self.items count) (sym (length_push c.loop-piece.yielded c.in-Some.piece))
    (read_more c.args.states c.args.text.now c.loop-piece.parts.items c.push.new.self.items (length c.loop-piece.yielded) c.in-Some.piece.now c.in_ok-part.part c.loop-piece.invariant turn.0 turn.1 c.in_ok-part.ensures.1 c.in-Ok.ensures.items)

pub returns-in_err-part : goal.returns-in_err-part
returns-in_err-part c =
    let gives = YieldsList-from_slice_split _ (λ byte. byte == 47) c.args.text.now (cc) (cc) (cc) (λ x b q called. search rules) in
    let turn = YieldsList-turn gives c.loop-piece.yielded _ c.loop-piece.yielded_by _ _ c.in-Some.piece c.in-Some.is c.next.ensures.steps in
    let p = err_from_is_err_and c.from_residual.result c.from_residual.ensures.1 in
    rw (p.1, p.2)
    (refused c.args.states c.args.text.now c.loop-piece.parts.items (length c.loop-piece.yielded) c.len.result c.in-Some.piece.now _ c.loop-piece.invariant turn.0 turn.1 (c.len.ensures ∙ c.loop-piece.parts.ok.0) c.in_err-part.ensures)

pub returns : goal.returns
returns c =
    let gives = YieldsList-from_slice_split _ (λ byte. byte == 47) c.args.text.now (cc) (cc) (cc) (λ x b q called. search rules) in
    let end = YieldsList-end gives c.loop-piece.yielded _ c.loop-piece.yielded_by _ _ c.in-None.is c.next.ensures.steps in
    accepted c.args.states c.args.text.now c.loop-piece.parts.items (length c.loop-piece.yielded) c.loop-piece.invariant end.1
