use Rattle.std.proofs.lemmas.Result.{IfOk-from_err}
use Rattle.std.proofs.Common.{◌≡◌, ◌+◌, List, ◌∷◌, [], ◌++◌, drop, ap, ◌∙◌, refl, sym, subst}
use Rattle.cover_terms.specs.declared.term.Term.{Term}
use Rattle.cover_terms.specs.Pair.{agree}
use Rattle.cover_logic.proofs.NeededRows.{AreKept, HoldAlike, kept_none, near_alike, row_kept, row_left_out, rest_from, rest_slice, needed_from_kept}
use Rattle.std.proofs.lemmas.List.{drop_all}
use Rattle.cover_logic.specs.Inner.Rows.{IsSole}
use Rattle.std.specs.List.{Contains, filter}
use Rattle.std.proofs.lemmas.List.Elements.{Contains-get_or}
use Rattle.cover_logic.proofs.spare_rows.needed_by_passes.Goals as goal
use Rattle.cover_logic.proofs.spare_rows.needed_by_passes.Goals.{then-is_some+in_ok-push, else-is_some}

pub loop-i-init : goal.loop-i-init
loop-i-init c = rw c.new-kept.ensures.items (kept_none _ _ c.requires)

pub loop-i-preserved : goal.loop-i-preserved
loop-i-preserved c =
    let row = c.index-rows-i.result in
    let on = c.args.on.now in
    let rows = c.args.rows.now in
    let kept = c.loop-i.kept.items in
    let rest = drop (c.loop-i.i + 1) rows in
    let before : AreKept on rows kept (row ∷ rest) = rw (← rest_from rows c.loop-i.i row c.loop-i-test.true c.index-rows-i.is) c.loop-i.invariant in
    let sole : IsSole row on (filter (agree row) (kept ++ rest)) c.in_ok-sole.sole =
    subst (λ (ts : List Term). IsSole row on (filter (agree row) ts) c.in_ok-sole.sole)
    (ap (λ (ts : List Term). c.deref.result.now ++ ts) (rest_slice rows (c.loop-i.i + 1)) ∙ ap (λ (ts : List Term). ts ++ rest) c.deref.ensures.value) c.in_ok-sole.ensures in
    let alike : HoldAlike row (kept ++ rest) (filter (agree row) (kept ++ rest)) = near_alike row (kept ++ rest) _ refl in
    let among : Contains rows row = subst (λ (t : Term). Contains rows t) (sym c.index-rows-i.is) (Contains-get_or rows c.loop-i.i row c.loop-i-test.true) in
    let P : List Term → Type 0 = λ ts. AreKept on rows ts rest in
    elim c.if-is_some.branch [
      | then-is_some+in_ok-push w ↦
          let pushed : c.if-is_some.kept.items ≡ kept ++ row ∷ [] = ap (λ v. v.items) w.kept-is ∙ w.in_ok-push.ensures.items in
          subst P (sym pushed) (row_kept on rows kept rest _ row c.in_ok-sole.sole before among alike sole (sym c.is_some.ensures ∙ w.if-is_some.true))
      | else-is_some w ↦
          let same : c.if-is_some.kept.items ≡ kept = ap (λ v. v.items) w.kept-is in
          subst P (sym same) (row_left_out on rows kept rest _ row c.in_ok-sole.sole before alike sole (sym c.is_some.ensures ∙ w.if-is_some.false))
    ]

pub returns : goal.returns
returns c = needed_from_kept c.args.on.now c.args.rows.now c.loop-i.kept.items _ (drop_all c.loop-i.i c.args.rows.now c.loop-i-test.false) c.loop-i.invariant

pub returns-in_err-sole : goal.returns-in_err-sole
returns-in_err-sole c = IfOk-from_err c.from_residual.result _ c.from_residual.ensures.0

pub returns-in_err-push : goal.returns-in_err-push
returns-in_err-push c = IfOk-from_err c.from_residual-in_err-push.result _ c.from_residual-in_err-push.ensures.0
