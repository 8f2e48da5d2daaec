use Rattle.std.proofs.lemmas.Result.{IfOk-from_err}
use Rattle.std.proofs.Common.{◌≡◌, ◌+◌, ◌∙◌, ℕ, List, ◌∷◌, [], ◌++◌, drop, length, ap, sym, subst}
use Rattle.std.specs.List.{All, Contains}
use Rattle.std.proofs.lemmas.List.{drop_all, with_items_is}
use Rattle.std.proofs.lemmas.List.Elements.{All-append, All-drop, Contains-get_or}
use Rattle.cover_terms.specs.declared.term.Term.{Term}
use Rattle.cover_terms.specs.Term.{FitsWidth}
use Rattle.cover_terms.specs.Charts.{IsFilled, IsFound}
use Rattle.cover_logic.specs.Inner.Rows.{IsSole}
use Rattle.cover_logic.proofs.LastRows.{AreOpen, open_first, open_kept, sole_from_number}
use Rattle.cover_logic.proofs.NeededRows.{AreKept, HoldAlike, kept_all, kept_none, needed_from_kept, rest_from, row_kept, row_left_out, same_alike}
use Rattle.cover_logic.proofs.lasts.needed_by_lasts.Goals as goal
use Rattle.cover_logic.proofs.lasts.needed_by_lasts.Goals.{then-is_some+in_ok-push, else-is_some}

pub loop-i-init : goal.loop-i-init
loop-i-init c =
    rw c.new-kept.ensures.items (
      kept_none c.args.on.now c.args.rows.now c.requires.covers,
      open_first c.args.width c.args.rows.now c.args.on.now c.in_ok-chart.chart.items c.requires.covers c.in_ok-chart.ensures,
    )

pub find-sole-requires : goal.find-sole-requires
find-sole-requires c = record {
  few = c.requires.few;
  fits = subst (λ (t : Term). FitsWidth c.args.width t) (sym c.index-rows-i.is) (c.requires.fits c.loop-i.i c.index-rows-i.result c.loop-i-test.true);
  size = ap length c.deref.ensures.value ∙ c.loop-i.invariant.1.size;
}

pub fill-requires : goal.fill-requires
fill-requires c = record {
  few = c.requires.few;
  fits = subst (λ (t : Term). FitsWidth c.args.width t) (sym c.index-rows-i.is) (c.requires.fits c.loop-i.i c.index-rows-i.result c.loop-i-test.true);
  size = ap length c.deref_mut.ensures.value ∙ c.loop-i.invariant.1.size;
}

pub loop-i-preserved : goal.loop-i-preserved
loop-i-preserved c =
    let width = c.args.width in
    let i = c.loop-i.i in
    let row = c.index-rows-i.result in
    let on = c.args.on.now in
    let rows = c.args.rows.now in
    let kept = c.loop-i.kept.items in
    let chart = c.loop-i.chart.items in
    let rest = drop (i + 1) rows in
    let before : AreKept on rows kept (row ∷ rest) = rw (← rest_from rows i row c.loop-i-test.true c.index-rows-i.is) c.loop-i.invariant.0 in
    let told : AreOpen width rows on kept chart = c.loop-i.invariant.1 in
    let found : IsFound width row (i + 1) chart c.find-sole.result =
    subst (λ (ns : List ℕ). IsFound width row (i + 1) ns c.find-sole.result) c.deref.ensures.value c.find-sole.ensures in
    let fits : FitsWidth width row = subst (λ (t : Term). FitsWidth width t) (sym c.index-rows-i.is) (c.requires.fits i row c.loop-i-test.true) in
    let all_fit : All (FitsWidth width) (kept ++ rest) =
    All-append (FitsWidth width) kept rest (kept_all (FitsWidth width) rows kept before.among c.requires.fits) (All-drop (FitsWidth width) (i + 1) rows c.requires.fits) in
    let sole : IsSole row on (kept ++ rest) c.find-sole.result =
    sole_from_number width rows on kept i row chart c.loop-i-test.true c.index-rows-i.is told c.find-sole.result all_fit c.requires.on_fits fits found in
    let alike : HoldAlike row (kept ++ rest) (kept ++ rest) = same_alike row (kept ++ rest) in
    let among : Contains rows row = subst (λ (t : Term). Contains rows t) (sym c.index-rows-i.is) (Contains-get_or rows i row c.loop-i-test.true) in
    elim c.if-is_some.branch [
      | then-is_some+in_ok-push w ↦
          let after = w.fill.new.chart in
          let filled : IsFilled width row 0 chart after = subst (λ (ns : List ℕ). IsFilled width row 0 ns after) w.deref_mut.ensures.value w.fill.ensures in
          let pushed : c.if-is_some.kept.items ≡ kept ++ row ∷ [] = ap (λ v. v.items) w.kept-is ∙ w.in_ok-push.ensures.items in
          let charted : c.if-is_some.chart.items ≡ after = ap (λ v. v.items) w.chart-is ∙ with_items_is c.loop-i.chart after (w.fill.ensures.size ∙ w.deref_mut.ensures.len) in
          rw (pushed, charted) (
            row_kept on rows kept rest (kept ++ rest) row c.find-sole.result before among alike sole (sym c.is_some.ensures ∙ w.if-is_some.true),
            open_kept width rows on kept row chart after told filled,
          )
      | else-is_some w ↦
          let same : c.if-is_some.kept.items ≡ kept = ap (λ v. v.items) w.kept-is in
          let charted : c.if-is_some.chart.items ≡ chart = ap (λ v. v.items) w.chart-is in
          rw (same, charted) (row_left_out on rows kept rest (kept ++ rest) row c.find-sole.result before alike sole (sym c.is_some.ensures ∙ w.if-is_some.false), told)
    ]

pub returns : goal.returns
returns c = needed_from_kept c.args.on.now c.args.rows.now c.loop-i.kept.items _ (drop_all c.loop-i.i c.args.rows.now c.loop-i-test.false) c.loop-i.invariant.0

pub lasts_on-requires-clause-few : goal.lasts_on-requires-clause-few
lasts_on-requires-clause-few c = c.requires.few

pub lasts_on-requires-clause-fits : goal.lasts_on-requires-clause-fits
lasts_on-requires-clause-fits c = c.requires.fits

pub lasts_on-requires-clause-on_fits : goal.lasts_on-requires-clause-on_fits
lasts_on-requires-clause-on_fits c = c.requires.on_fits

pub returns-in_err-chart : goal.returns-in_err-chart
returns-in_err-chart c = IfOk-from_err c.from_residual.result _ c.from_residual.ensures.0

pub returns-in_err-push : goal.returns-in_err-push
returns-in_err-push c = IfOk-from_err c.from_residual-in_err-push.result _ c.from_residual-in_err-push.ensures.0
