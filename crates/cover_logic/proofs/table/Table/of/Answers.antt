use Rattle.std.proofs.lemmas.Result.{IfOk-from_err}
use Rattle.std.proofs.Common.{◌≡◌, ◌+◌, ◌∙◌, List, [], ◌∷◌, ◌++◌, take, ap, sym, subst}
use Rattle.std.proofs.lemmas.List.{take_all, take_more}
use Rattle.cover_terms.specs.declared.term.Term.{Term}
use Rattle.cover_terms.specs.Term.{FitsWidth}
use Rattle.cover_logic.specs.Inner.Tables.{IsMarkTableOf}
use Rattle.cover_logic.proofs.table.Table.of.Goals as goal

pub loop-term-init : goal.loop-term-init
loop-term-init c = c.in_ok-table.ensures

pub add-requires : goal.add-requires
add-requires c =
    let told = c.loop-term.invariant in
    let fits : FitsWidth c.args.width c.term-item.result =
    subst (λ (t : Term). FitsWidth c.args.width t) (sym c.term-item.is) (c.requires.fits c.loop-term.term-index c.term-item.result c.loop-term-test.true) in
    record { table = told.right; fits = subst (λ w. FitsWidth w c.term-item.result) (sym told.columns) fits }

pub loop-term-preserved : goal.loop-term-preserved
loop-term-preserved c =
    let told = c.loop-term.invariant in
    let added = c.in_ok-add.ensures in
    let term = c.term-item.result in
    let terms = c.args.terms.now in
    let i = c.loop-term.term-index in
    let more : take (i + 1) terms ≡ take i terms ++ term ∷ [] =
    take_more terms i term c.loop-term-test.true ∙ ap (λ (t : Term). take i terms ++ t ∷ []) (sym c.term-item.is) in
    record {
      columns = added.columns ∙ told.columns;
      items = added.items ∙ (ap (λ (ts : List Term). ts ++ term ∷ []) told.items ∙ sym more);
      right = added.right;
    }

pub returns : goal.returns
returns c =
    subst (λ (ts : List Term). IsMarkTableOf c.args.width ts c.loop-term.table) (take_all c.loop-term.term-index c.args.terms.now c.loop-term-test.false) c.loop-term.invariant

pub new-requires : goal.new-requires
new-requires c = c.requires.few

pub returns-in_err-table : goal.returns-in_err-table
returns-in_err-table c = IfOk-from_err c.from_residual.result _ c.from_residual.ensures.0

pub returns-in_err-add : goal.returns-in_err-add
returns-in_err-add c = IfOk-from_err c.from_residual-in_err-add.result _ c.from_residual-in_err-add.ensures.0
