use Rattle.std.proofs.lemmas.Result.{IfOk-from_err}
use Rattle.std.proofs.Common.{◌≡◌, ℕ, ◌+◌, ◌∙◌, ◌∷◌, [], ◌++◌, false, drop, set, ap, sym, subst, rules}
use Rattle.cover_terms.specs.declared.term.Term.{Term}
use Rattle.cover_terms.specs.Term.{FitsWidth}
use Rattle.cover_logic.specs.Inner.Bundles.{IsSoleLeft, entries_of, terms_in_bundles}
use Rattle.cover_logic.specs.Inner.Rows.{IsSole}
use Rattle.cover_logic.proofs.LeftRows.{rivals_alike, left_kept, left_without, left_all}
use Rattle.cover_logic.proofs.NeededRows.{AreKept, HoldAlike, kept_none, row_kept, row_left_out, rest_from, needed_from_kept}
use Rattle.std.proofs.lemmas.List.{drop_all}
use Rattle.std.specs.List.{Contains}
use Rattle.std.proofs.lemmas.List.Elements.{Contains-get_or}
use Rattle.cover_logic.proofs.rivals.needed_rows.Goals as goal
use Rattle.cover_logic.proofs.rivals.needed_rows.Goals.{then-is_some+in_ok-push, else-is_some}

pub loop-i-init : goal.loop-i-init
loop-i-init c =
    rw c.new-kept.ensures.items (kept_none (terms_in_bundles c.args.on.now) c.args.rows.now c.requires.covers, left_all c.args.rows.now c.args.left.now c.requires.left)

pub sole_left-requires-clause-fits : goal.sole_left-requires-clause-fits
sole_left-requires-clause-fits c =
    subst (λ (w : ℕ). FitsWidth w c.index-rows-i.result) (sym c.requires.rows.columns)
    (subst (λ (t : Term). FitsWidth c.args.on.now.width t) (sym c.index-rows-i.is) (c.requires.rows.fits c.loop-i.i c.index-rows-i.result c.loop-i-test.true))

pub sole_left-requires-clause-on_fits : goal.sole_left-requires-clause-on_fits
sole_left-requires-clause-on_fits c =
    subst (λ (t : Term). FitsWidth c.args.on.now.width t) (sym c.index-rows-i.is) (c.requires.rows.fits c.loop-i.i c.index-rows-i.result c.loop-i-test.true)

pub loop-i-preserved : goal.loop-i-preserved
loop-i-preserved c =
    let i = c.loop-i.i in
    let row = c.index-rows-i.result in
    let on = terms_in_bundles c.args.on.now in
    let rows = c.args.rows.now in
    let kept = c.loop-i.kept.items in
    let left = c.loop-i.left in
    let rest = drop (i + 1) rows in
    let entries = entries_of c.args.all.now in
    let told : IsSoleLeft i row c.args.all.now c.args.on.now left c.in_ok-sole.sole = c.in_ok-sole.ensures in
    let others = told.others in
    let before : AreKept on rows kept (row ∷ rest) = rw (← rest_from rows i row c.loop-i-test.true c.index-rows-i.is) c.loop-i.invariant.0 in
    let alike : HoldAlike row (kept ++ rest) others =
    rivals_alike rows left kept i row entries told.near others c.requires.rows.numbers told.met told.rivals c.loop-i.invariant.1 in
    let sole : IsSole row on others c.in_ok-sole.sole = told.own in
    let among : Contains rows row = subst (λ (t : Term). Contains rows t) (sym c.index-rows-i.is) (Contains-get_or rows i row c.loop-i-test.true) in
    elim c.if-is_some.branch [
      | then-is_some+in_ok-push w ↦
          let pushed : c.if-is_some.kept.items ≡ kept ++ row ∷ [] = ap (λ v. v.items) w.kept-is ∙ w.in_ok-push.ensures.items in
          let same : c.if-is_some.left ≡ left = w.left-is in
          rw (pushed, same) (
            row_kept on rows kept rest others row c.in_ok-sole.sole before among alike sole (sym c.is_some.ensures ∙ w.if-is_some.true),
            left_kept rows left kept i row c.loop-i-test.true c.index-rows-i.is c.loop-i.invariant.1,
          )
      | else-is_some w ↦
          let same : c.if-is_some.kept.items ≡ kept = ap (λ v. v.items) w.kept-is in
          let gone : c.if-is_some.left ≡ set left i false = search rules in
          rw (same, gone) (
            row_left_out on rows kept rest others row c.in_ok-sole.sole before alike sole (sym c.is_some.ensures ∙ w.if-is_some.false),
            left_without rows left kept i c.loop-i-test.true c.loop-i.invariant.1,
          )
    ]

pub returns : goal.returns
returns c =
    needed_from_kept (terms_in_bundles c.args.on.now) c.args.rows.now c.loop-i.kept.items _ (drop_all c.loop-i.i c.args.rows.now c.loop-i-test.false) c.loop-i.invariant.0

pub returns-in_err-sole : goal.returns-in_err-sole
returns-in_err-sole c = IfOk-from_err c.from_residual.result _ c.from_residual.ensures.0

pub returns-in_err-push : goal.returns-in_err-push
returns-in_err-push c = IfOk-from_err c.from_residual-in_err-push.result _ c.from_residual-in_err-push.ensures.0
