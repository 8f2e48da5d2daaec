use Rattle.std.proofs.Common.{◌∙◌, refl, rules}
use Rattle.cover_terms.proofs.Charts.{filled_halves, filled_one, looks_below, open_below}
use Rattle.cover_terms.specs.Laws.Gaps.{dash_at_lowest}
use Rattle.cover_terms.proofs.chart.+fill.Goals as goal

pub returns-then-open-eq0 : goal.returns-then-open-eq0
returns-then-open-eq0 t c =
    filled_one c.args.width c.args.row c.args.number c.args.chart.now c.requires.fits c.requires.size
    (looks_below c.args.width c.args.row c.columns.result c.requires.few (search rules) c.columns.ensures c.if-open-eq0.true)

pub with_literal-requires-clause-dash : goal.with_literal-requires-clause-dash
with_literal-requires-clause-dash t c = dash_at_lowest c.args.row.care c.columns.result (search rules) _ refl (search rules) c.if-open-eq0.false

pub fill-requires : goal.fill-requires
fill-requires t c =
    let below = open_below c.args.width c.args.row.care c.columns.result _ c.columns.ensures refl (search rules) c.if-open-eq0.false in
    (search rules, (c.requires.few, (c.with_literal.ensures.fits c.args.width below c.requires.fits, c.requires.size)))

pub with_literal-requires-2-clause-dash : goal.with_literal-requires-2-clause-dash
with_literal-requires-2-clause-dash t c = dash_at_lowest c.args.row.care c.columns.result (search rules) _ refl (search rules) c.if-open-eq0.false

pub fill-requires-2 : goal.fill-requires-2
fill-requires-2 t c =
    let below = open_below c.args.width c.args.row.care c.columns.result _ c.columns.ensures refl (search rules) c.if-open-eq0.false in
    (search rules, (c.requires.few, (c.with_literal-2.ensures.fits c.args.width below c.requires.fits, c.fill.ensures.size ∙ c.requires.size)))

pub returns : goal.returns
returns t c =
    filled_halves c.args.width c.args.row c.with_literal.result c.with_literal-2.result c.args.number _ _ _ _
    c.with_literal.ensures.half c.with_literal-2.ensures.half c.fill.ensures c.fill-2.ensures
