use Rattle.std.proofs.Common.{ℕ, Option, refl, subst, rules}
use Rattle.cover_terms.specs.Charts.{IsFound}
use Rattle.cover_terms.proofs.Charts.{found_in_half, found_in_halves, found_none, found_one, looks_below, open_below}
use Rattle.cover_terms.specs.Laws.Gaps.{dash_at_lowest}
use Rattle.cover_terms.proofs.chart.+find.Goals as goal

pub returns-then-chart-row : goal.returns-then-chart-row
returns-then-chart-row t c = found_one c.args.width c.args.row c.args.number c.args.chart.now c.requires.fits c.if-chart-row.true

pub returns-then-open-eq0 : goal.returns-then-open-eq0
returns-then-open-eq0 t c =
    found_none c.args.width c.args.row c.args.number c.args.chart.now c.requires.fits
    (looks_below c.args.width c.args.row c.columns.result c.requires.few (search rules) c.columns.ensures c.if-open-eq0.true) c.if-chart-row.false

pub with_literal-requires-clause-dash : goal.with_literal-requires-clause-dash
with_literal-requires-clause-dash t c = dash_at_lowest c.args.row.care c.columns.result (search rules) _ refl (search rules) c.if-open-eq0.false

pub find-requires : goal.find-requires
find-requires t c =
    let below = open_below c.args.width c.args.row.care c.columns.result _ c.columns.ensures refl (search rules) c.if-open-eq0.false in
    (search rules, (c.requires.few, (c.with_literal.ensures.fits c.args.width below c.requires.fits, c.requires.size)))

pub with_literal-requires-2-clause-dash : goal.with_literal-requires-2-clause-dash
with_literal-requires-2-clause-dash t c = dash_at_lowest c.args.row.care c.columns.result (search rules) _ refl (search rules) c.if-open-eq0.false

pub find-requires-2 : goal.find-requires-2
find-requires-2 t c =
    let below = open_below c.args.width c.args.row.care c.columns.result _ c.columns.ensures refl (search rules) c.if-open-eq0.false in
    (search rules, (c.requires.few, (c.with_literal-2.ensures.fits c.args.width below c.requires.fits, c.requires.size)))

pub returns-in-Some : goal.returns-in-Some
returns-in-Some t c =
    found_in_half c.args.width c.args.row c.with_literal.result c.args.number _ 0 c.in-Some.value c.args.chart.now c.with_literal.ensures.half
    (subst (λ (o : Option ℕ). IsFound c.args.width c.with_literal.result c.args.number c.args.chart.now o) c.in-Some.is c.find.ensures)

pub returns : goal.returns
returns t c =
    found_in_halves c.args.width c.args.row c.with_literal.result c.with_literal-2.result c.args.number _ c.args.chart.now c.find-2.result
    c.with_literal.ensures.half c.with_literal-2.ensures.half
    (subst (λ (o : Option ℕ). IsFound c.args.width c.with_literal.result c.args.number c.args.chart.now o) c.in_default.is c.find.ensures)
    c.find-2.ensures
