use Rattle.std.proofs.lemmas.Result.{IfOk-from_err}
use Rattle.std.proofs.Common.{◌≡◌, ◌∙◌, List, [], ◌∷◌, ◌++◌, take, ap, sym, append_assoc}
use Rattle.std.specs.List.{filter}
use Rattle.std.proofs.lemmas.List.{append-nil, take_all}
use Rattle.cover_terms.specs.declared.term.Term.{Term}
use Rattle.cover_terms.specs.Pair.{agree}
use Rattle.cover_terms.specs.Laws.Lists.{filter_passed, filter_pushed}
use Rattle.cover_terms.proofs.gap.add_overlapping.Goals as goal
use Rattle.cover_terms.proofs.gap.add_overlapping.Goals.{then-touches+in_ok-push, else-touches}

pub loop-term-init : goal.loop-term-init
loop-term-init c = sym (append-nil c.args.near.now.items)

pub loop-term-preserved : goal.loop-term-preserved
loop-term-preserved c =
    let test = agree c.args.part in
    let term = c.term-item.result in
    let terms = c.args.terms.now in
    let i = c.loop-term.term-index in
    let before = c.args.near.now.items in
    let near = c.loop-term.near.items in
    elim c.if-touches.branch [
      | then-touches+in_ok-push w ↦
          let pushed : c.if-touches.near.items ≡ near ++ term ∷ [] = ap (λ v. v.items) w.near-is ∙ w.in_ok-push.ensures.items in
          pushed ∙ (ap (λ (ts : List Term). ts ++ term ∷ []) c.loop-term.invariant
          ∙ (append_assoc before (filter test (take i terms)) (term ∷ [])
          ∙ ap (λ (ts : List Term). before ++ ts) (sym (filter_pushed test terms i term c.loop-term-test.true c.term-item.is (sym c.touches.ensures.test ∙ w.if-touches.true)))))
      | else-touches w ↦
          ap (λ v. v.items) w.near-is
          ∙ (c.loop-term.invariant
          ∙ ap (λ (ts : List Term). before ++ ts) (sym (filter_passed test terms i term c.loop-term-test.true c.term-item.is (sym c.touches.ensures.test ∙ w.if-touches.false))))
    ]

pub returns : goal.returns
returns c =
    c.loop-term.invariant
    ∙ ap (λ (ts : List Term). c.args.near.now.items ++ filter (agree c.args.part) ts) (take_all c.loop-term.term-index c.args.terms.now c.loop-term-test.false)

pub returns-in_err-push : goal.returns-in_err-push
returns-in_err-push c = IfOk-from_err c.from_residual.result _ c.from_residual.ensures.0
