use Rattle.std.proofs.Common.{◌≡◌, ◌∙◌, List, [], ◌∷◌, ◌++◌, ap, sym}
use Rattle.std.specs.List.{filter}
use Rattle.std.proofs.lemmas.List.{take_all}
use Rattle.std.proofs.lemmas.Result.{IfOk-from_err}
use Rattle.cover_terms.specs.declared.term.Term.{Term}
use Rattle.cover_logic.specs.Inner.Sides.{is_on_side}
use Rattle.cover_terms.specs.Laws.Lists.{filter_passed, filter_pushed}
use Rattle.cover_logic.proofs.index.part.Goals as goal
use Rattle.cover_logic.proofs.index.part.Goals.{then-is_on_side+in_ok-push, else-is_on_side}

pub loop-term-init : goal.loop-term-init
loop-term-init c = c.new-part.ensures.items

pub returns-in_err-push : goal.returns-in_err-push
returns-in_err-push c = IfOk-from_err c.from_residual.result _ c.from_residual.ensures.0

pub loop-term-preserved : goal.loop-term-preserved
loop-term-preserved c =
    let test = is_on_side c.args.side c.args.column in
    let term = c.term-item.result in
    let terms = c.args.terms.now in
    let i = c.loop-term.term-index in
    let part = c.loop-term.part.items in
    elim c.if-is_on_side.branch [
      | then-is_on_side+in_ok-push w ↦
          let pushed : c.if-is_on_side.part.items ≡ part ++ term ∷ [] = ap (λ v. v.items) w.part-is ∙ w.in_ok-push.ensures.items in
          pushed ∙ (ap (λ (ts : List Term). ts ++ term ∷ []) c.loop-term.invariant
          ∙ sym (filter_pushed test terms i term c.loop-term-test.true c.term-item.is (sym c.is_on_side.ensures ∙ w.if-is_on_side.true)))
      | else-is_on_side w ↦
          ap (λ v. v.items) w.part-is
          ∙ (c.loop-term.invariant ∙ sym (filter_passed test terms i term c.loop-term-test.true c.term-item.is (sym c.is_on_side.ensures ∙ w.if-is_on_side.false)))
    ]

pub returns : goal.returns
returns c =
    c.loop-term.invariant
    ∙ ap (λ (ts : List Term). filter (is_on_side c.args.side c.args.column) ts) (take_all c.loop-term.term-index c.args.terms.now c.loop-term-test.false)
