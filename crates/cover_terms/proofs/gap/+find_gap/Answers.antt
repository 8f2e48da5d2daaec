use Rattle.std.proofs.Common.{◌≡◌, ℕ, ◌∙◌, ◌++◌, true, Option, List, ap, sym, subst, refl, rules}
use Rattle.std.specs.List.{All, filter}
use Rattle.std.proofs.lemmas.List.Elements.{filter_passes}
use Rattle.std.proofs.lemmas.Result.{IfOk-weaker, IfOk-from_err}
use Rattle.cover_terms.specs.declared.term.Term.{Term}
use Rattle.cover_terms.specs.Pair.{agree}
use Rattle.cover_terms.specs.Lists.{IsUncovered}
use Rattle.cover_terms.specs.Laws.Gaps.{IsNear, dash_at_lowest, gap_from_half, gap_from_halves, gap_from_near, gap_where_none, held_by_one, none_first}
use Rattle.cover_terms.proofs.gap.+find_gap.Goals as goal

pub find_gap-find_near_gap-requires : goal.find_gap-find_near_gap-requires
find_gap-find_near_gap-requires t c =
    let near : IsNear c.args.part c.args.terms.now c.deref.result.now =
    c.deref.ensures.value ∙ (c.in_ok-add_overlapping.ensures ∙ ap (λ (ts : List Term). ts ++ filter (agree c.args.part) c.args.terms.now) c.new-near.ensures.items) in
    (search rules, subst (λ (ts : List Term). All (λ u. agree c.args.part u ≡ true) ts) (sym near) (filter_passes (agree c.args.part) c.args.terms.now))

pub find_gap-returns : goal.find_gap-returns
find_gap-returns t c =
    let near : IsNear c.args.part c.args.terms.now c.deref.result.now =
    c.deref.ensures.value ∙ (c.in_ok-add_overlapping.ensures ∙ ap (λ (ts : List Term). ts ++ filter (agree c.args.part) c.args.terms.now) c.new-near.ensures.items) in
    IfOk-weaker c.find_near_gap.result _ _ (λ gap h. gap_from_near c.args.part c.args.terms.now c.deref.result.now near gap h) c.find_near_gap.ensures

pub find_near_gap-returns-in_default : goal.find_near_gap-returns-in_default
find_near_gap-returns-in_default t c = gap_where_none c.args.part c.args.near.now (none_first c.args.near.now (search rules))

pub find_near_gap-returns-then-open-eq0 : goal.find_near_gap-returns-then-open-eq0
find_near_gap-returns-then-open-eq0 t c =
    held_by_one c.args.part c.args.near.now c.nearest-term.result c.requires c.nearest-term.ensures (search rules) (search rules) c.if-open-eq0.true

pub find_near_gap-with_literal-requires-clause-dash : goal.find_near_gap-with_literal-requires-clause-dash
find_near_gap-with_literal-requires-clause-dash t c = dash_at_lowest c.args.part.care c.nearest-term.result.care (search rules) _ refl (search rules) c.if-open-eq0.false

pub find_near_gap-with_literal-requires-2-clause-dash : goal.find_near_gap-with_literal-requires-2-clause-dash
find_near_gap-with_literal-requires-2-clause-dash t c = dash_at_lowest c.args.part.care c.nearest-term.result.care (search rules) _ refl (search rules) c.if-open-eq0.false

pub find_near_gap-returns-in-Some-2 : goal.find_near_gap-returns-in-Some-2
find_near_gap-returns-in-Some-2 t c =
    gap_from_half c.args.part c.with_literal.result c.args.near.now _ 0 c.in-Some-2.gap c.with_literal.ensures.half
    (subst (λ (o : Option ℕ). IsUncovered c.with_literal.result c.args.near.now o) c.in-Some-2.is c.in_ok-gap.ensures)

pub find_near_gap-returns : goal.find_near_gap-returns
find_near_gap-returns t c =
    IfOk-weaker c.find_gap-2.result _ _
    (λ gap h. gap_from_halves c.args.part c.with_literal.result c.with_literal-2.result c.args.near.now _ c.with_literal.ensures.half c.with_literal-2.ensures.half
    (subst (λ (o : Option ℕ). IsUncovered c.with_literal.result c.args.near.now o) c.in_default-2.is c.in_ok-gap.ensures) gap h)
    c.find_gap-2.ensures

pub find_gap-returns-in_err-add_overlapping : goal.find_gap-returns-in_err-add_overlapping
find_gap-returns-in_err-add_overlapping t c = IfOk-from_err c.from_residual.result _ c.from_residual.ensures.0

pub find_near_gap-returns-in_err-gap : goal.find_near_gap-returns-in_err-gap
find_near_gap-returns-in_err-gap t c = IfOk-from_err c.from_residual.result _ c.from_residual.ensures.0
