use Rattle.std.proofs.Common.{◌≡◌, ◌+◌, ◌∙◌, ℕ, List, [], ◌∷◌, ◌++◌, None, Option, Some, take, get_or, ap, sym, subst}
use Rattle.std.specs.List.{filter}
use Rattle.std.proofs.lemmas.List.{take_all, take_more}
use Rattle.std.proofs.lemmas.List.Elements.{filter-append}
use Rattle.std.proofs.lemmas.Result.{IfOk-from_err}
use Rattle.cover_terms.specs.declared.term.Term.{Term}
use Rattle.cover_terms.specs.Term.{Holds, IsCovered}
use Rattle.cover_terms.specs.Pair.{agree}
use Rattle.cover_terms.specs.Lists.{IsSharedGap}
use Rattle.cover_logic.specs.Inner.Rows.{IsSole}
use Rattle.cover_terms.specs.Laws.Lists.{held_at, held_none}
use Rattle.cover_logic.proofs.NeededRows.{IsShared, shared_more}
use Rattle.cover_logic.proofs.spare_rows.sole_beside.Goals as goal

pub returns-in_err-add_overlapping : goal.returns-in_err-add_overlapping
returns-in_err-add_overlapping c = IfOk-from_err c.from_residual.result _ c.from_residual.ensures.0

pub returns-in_err-add_overlapping-2 : goal.returns-in_err-add_overlapping-2
returns-in_err-add_overlapping-2 c = IfOk-from_err c.from_residual-in_err-add_overlapping-2.result _ c.from_residual-in_err-add_overlapping-2.ensures.0

pub loop-term-init : goal.loop-term-init
loop-term-init c = λ x p h. absurd (held_none x h)

pub returns-in_err-gap : goal.returns-in_err-gap
returns-in_err-gap c = IfOk-from_err c.from_residual-in_err-gap.result _ c.from_residual-in_err-gap.ensures.0

pub returns-in-Some : goal.returns-in-Some
returns-in-Some c =
    let near = agree c.args.row in
    let kept = c.args.kept.now in
    let rest = c.args.rest.now in
    let first = c.in_ok-add_overlapping.ensures ∙ ap (λ (ts : List Term). ts ++ filter near kept) c.new-others.ensures.items in
    let both : c.add_overlapping-2.new.near.items ≡ filter near (kept ++ rest) =
    c.in_ok-add_overlapping-2.ensures ∙ (ap (λ (ts : List Term). ts ++ filter near rest) first ∙ sym (filter-append near kept rest)) in
    let gap = subst (λ (o : Option ℕ). IsSharedGap c.args.row c.term-item.result c.deref.result.now o) c.in-Some.is c.in_ok-gap.ensures in
    let at : Holds (get_or c.args.on.now c.loop-term.term-index c.term-item.result) c.in-Some.gap = subst (λ (t : Term). Holds t c.in-Some.gap) c.term-item.is gap.1 in
    subst (λ (ts : List Term). IsSole c.args.row c.args.on.now ts (Some c.in-Some.gap)) (c.deref.ensures.value ∙ both)
    (gap.0, held_at c.args.on.now c.loop-term.term-index c.term-item.result c.in-Some.gap c.loop-term-test.true at, gap.2)

pub loop-term-preserved : goal.loop-term-preserved
loop-term-preserved c =
    let term = c.term-item.result in
    let others = c.add_overlapping-2.new.near.items in
    let more : take (c.loop-term.term-index + 1) c.args.on.now ≡ take c.loop-term.term-index c.args.on.now ++ term ∷ [] =
    take_more c.args.on.now c.loop-term.term-index term c.loop-term-test.true ∙ ap (λ (t : Term). take c.loop-term.term-index c.args.on.now ++ t ∷ []) (sym c.term-item.is) in
    let one = subst (λ (ts : List Term). IsSharedGap c.args.row term ts None) c.deref.ensures.value
    (subst (λ (o : Option ℕ). IsSharedGap c.args.row term c.deref.result.now o) c.in_default.is c.in_ok-gap.ensures) in
    subst (λ (ts : List Term). IsShared c.args.row ts others) (sym more) (shared_more c.args.row _ others term c.loop-term.invariant one)

pub returns : goal.returns
returns c =
    let near = agree c.args.row in
    let kept = c.args.kept.now in
    let rest = c.args.rest.now in
    let first = c.in_ok-add_overlapping.ensures ∙ ap (λ (ts : List Term). ts ++ filter near kept) c.new-others.ensures.items in
    let both : c.add_overlapping-2.new.near.items ≡ filter near (kept ++ rest) =
    c.in_ok-add_overlapping-2.ensures ∙ (ap (λ (ts : List Term). ts ++ filter near rest) first ∙ sym (filter-append near kept rest)) in
    subst (λ (ts : List Term). IsSole c.args.row c.args.on.now ts None) both
    (λ x p h. c.loop-term.invariant x p (subst (λ (ts : List Term). IsCovered ts x) (sym (take_all c.loop-term.term-index c.args.on.now c.loop-term-test.false)) h))
