use Rattle.std.proofs.Common.{◌≡◌, ◌+◌, ◌∙◌, List, ◌∷◌, [], ◌++◌, take, sym, subst, ap}
use Rattle.std.proofs.lemmas.Bool.{false≢true}
use Rattle.std.proofs.lemmas.List.{take_all, take_more}
use Rattle.std.proofs.lemmas.Result.{IfOk-weaker, IfOk-from_err}
use Rattle.cover_logic.specs.declared.bundles.Entry.{Entry}
use Rattle.cover_terms.specs.declared.term.Term.{Term}
use Rattle.cover_logic.specs.Inner.Bundles.{terms_in_bundles}
use Rattle.cover_logic.specs.Inner.Entries.{HoldsRivals}
use Rattle.cover_logic.specs.Inner.Rows.{IsSole}
use Rattle.cover_logic.proofs.LeftRows.{rivals_more, rivals_none, rivals_passed}
use Rattle.cover_logic.proofs.rivals.sole_left.Goals as goal
use Rattle.cover_logic.proofs.rivals.sole_left.Goals.{then-is_rival+in_ok-push, else-is_rival}

pub met_by-requires : goal.met_by-requires
met_by-requires c = c.requires.fits

pub returns-in_err-near : goal.returns-in_err-near
returns-in_err-near c = IfOk-from_err c.from_residual.result _ c.from_residual.ensures.0

pub loop-entry-init : goal.loop-entry-init
loop-entry-init c = rw c.new-others.ensures.items (rivals_none c.args.number c.args.left.now)

pub returns-in_err-push : goal.returns-in_err-push
returns-in_err-push c = IfOk-from_err c.from_residual-in_err-push.result _ c.from_residual-in_err-push.ensures.0

pub loop-entry-preserved : goal.loop-entry-preserved
loop-entry-preserved c =
    let row = c.args.number in
    let left = c.args.left.now in
    let entry = c.entry-item.result in
    let i = c.loop-entry.entry-index in
    let near = c.deref-entry-items.result.now in
    let others = c.loop-entry.others.items in
    let more : take (i + 1) near ≡ take i near ++ entry ∷ [] =
    take_more near i entry c.loop-entry-test.true ∙ ap (λ (e : Entry). take i near ++ e ∷ []) (sym c.entry-item.is) in
    let Q : List Term → Type 0 = λ ts. HoldsRivals row left (take i near ++ entry ∷ []) ts in
    let after : Q c.if-is_rival.others.items =
    elim c.if-is_rival.branch [
      | then-is_rival+in_ok-push w ↦
          let pushed : c.if-is_rival.others.items ≡ others ++ entry.term ∷ [] = ap (λ v. v.items) w.others-is ∙ w.in_ok-push.ensures.items in
          subst Q (sym pushed) (rivals_more row left (take i near) others entry c.loop-entry.invariant (c.is_rival.ensures.0 w.if-is_rival.true))
      | else-is_rival w ↦
          let same : c.if-is_rival.others.items ≡ others = ap (λ v. v.items) w.others-is in
          subst Q (sym same) (rivals_passed row left (take i near) others entry c.loop-entry.invariant (λ r. false≢true (sym w.if-is_rival.false ∙ c.is_rival.ensures.1 r)))
    ] in
    subst (λ (es : List Entry). HoldsRivals row left es c.if-is_rival.others.items) (sym more) after

pub sole_value-requires : goal.sole_value-requires
sole_value-requires c = c.requires.on_fits

pub returns : goal.returns
returns c =
    let items = c.deref-entry-items.result.now in
    let others = c.loop-entry.others.items in
    let told = subst (λ (es : List Entry). HoldsRivals c.args.number c.args.left.now es others) (take_all c.loop-entry.entry-index items c.loop-entry-test.false) c.loop-entry.invariant in
    IfOk-weaker c.sole_value.result _ _
    (λ sole own. record {
      near = c.in_ok-near.near.items;
      others = others;
      met = c.in_ok-near.ensures;
      rivals = subst (λ (es : List Entry). HoldsRivals c.args.number c.args.left.now es others) c.deref-entry-items.ensures.value told;
      own = subst (λ (ts : List Term). IsSole c.args.row (terms_in_bundles c.args.on.now) ts sole) c.deref.ensures.value own;
    })
    c.sole_value.ensures
