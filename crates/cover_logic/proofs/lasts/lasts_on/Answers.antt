use Rattle.std.proofs.Common.{◌≡◌, ◌+◌, ◌^◌, ◌∙◌, List, ℕ, length, ap, sym, subst, arith}
use Rattle.std.proofs.lemmas.List.{with_items_is}
use Rattle.std.proofs.lemmas.Result.{IfOk-from_err}
use Rattle.cover_terms.specs.declared.term.Term.{Term}
use Rattle.cover_terms.specs.Term.{FitsWidth}
use Rattle.cover_terms.specs.Charts.{IsCleared, IsFilled}
use Rattle.cover_logic.specs.Inner.Lasts.{AreLasts, AreLastsOn}
use Rattle.cover_logic.specs.Inner.Tables.{AreMarks}
use Rattle.cover_logic.proofs.LastRows.{lasts_at_marks, lasts_more, lasts_none}
use Rattle.cover_logic.proofs.lasts.lasts_on.Goals as goal

pub of-requires-clause-few : goal.of-requires-clause-few
of-requires-clause-few c = c.requires.few

pub of-requires-clause-fits : goal.of-requires-clause-fits
of-requires-clause-fits c = c.requires.on_fits

pub returns-in_err-ones : goal.returns-in_err-ones
returns-in_err-ones c = IfOk-from_err c.from_residual.result _ c.from_residual.ensures.0

pub blank-requires : goal.blank-requires
blank-requires c = c.requires.few

pub returns-in_err-chart : goal.returns-in_err-chart
returns-in_err-chart c = IfOk-from_err c.from_residual-in_err-chart.result _ c.from_residual-in_err-chart.ensures.0

pub loop-i-init : goal.loop-i-init
loop-i-init c = lasts_none c.args.width c.args.rows.now c.in_ok-chart.chart.items c.in_ok-chart.ensures

pub fill-requires-clause-few : goal.fill-requires-clause-few
fill-requires-clause-few c = c.requires.few

pub fill-requires-clause-fits : goal.fill-requires-clause-fits
fill-requires-clause-fits c = subst (λ (t : Term). FitsWidth c.args.width t) (sym c.index-rows-i.is) (c.requires.fits c.loop-i.i c.index-rows-i.result c.loop-i-test.true)

pub fill-requires-clause-size : goal.fill-requires-clause-size
fill-requires-clause-size c = ap length c.deref_mut.ensures.value ∙ c.loop-i.invariant.size

pub loop-i-preserved : goal.loop-i-preserved
loop-i-preserved c =
    let width = c.args.width in
    let rows = c.args.rows.now in
    let i = c.loop-i.i in
    let row = c.index-rows-i.result in
    let before = c.loop-i.chart in
    let after = c.fill.new.chart in
    let filled : IsFilled width row (i + 1) before.items after =
    subst (λ (ns : List ℕ). IsFilled width row (i + 1) ns after) c.deref_mut.ensures.value c.fill.ensures in
    let kept = with_items_is before after (c.fill.ensures.size ∙ c.deref_mut.ensures.len) in
    subst (λ (ns : List ℕ). AreLasts width rows (i + 1) ns) (sym kept)
    (lasts_more width rows i row before.items after c.loop-i-test.true c.index-rows-i.is c.loop-i.invariant filled)

pub clear-requires : goal.clear-requires
clear-requires c =
    let ones = c.in_ok-ones.ensures in
    ap length c.deref_mut-2.ensures.value ∙ (c.loop-i.invariant.size
    ∙ sym (ap length c.deref.ensures.value ∙ (ones.right.told.size ∙ ap (λ (n : ℕ). 2 ^ n) ones.columns)))

pub returns : goal.returns
returns c =
    let width = c.args.width in
    let rows = c.args.rows.now in
    let on = c.args.on.now in
    let before = c.loop-i.chart in
    let after = c.clear.new.chart in
    let table = c.in_ok-ones.ones in
    let marks = table.marks.items in
    let ones = c.in_ok-ones.ensures in
    let past = c.loop-i-test.false in
    let high = c.loop-i.auto.i-end in
    let all : c.loop-i.i ≡ length rows = omega arith in
    let lasts : AreLasts width rows (length rows) before.items = subst (λ (n : ℕ). AreLasts width rows n before.items) all c.loop-i.invariant in
    let told : AreMarks width on marks =
    subst (λ (w : ℕ). AreMarks w on marks) ones.columns (subst (λ (ts : List Term). AreMarks table.width ts marks) ones.items ones.right.told) in
    let cleared : IsCleared marks before.items after =
    subst (λ (ns : List ℕ). IsCleared marks ns after) c.deref_mut-2.ensures.value
    (subst (λ (ns : List ℕ). IsCleared ns c.deref_mut-2.result.now after) c.deref.ensures.value c.clear.ensures) in
    let kept = with_items_is before after (c.clear.ensures.size ∙ c.deref_mut-2.ensures.len) in
    subst (λ (ns : List ℕ). AreLastsOn width rows on ns) (sym kept) (lasts_at_marks width rows on marks before.items after told lasts cleared)
