use Rattle.std.proofs.Common.{List, sym, subst}
use Rattle.std.specs.List.{All}
use Rattle.std.proofs.lemmas.Result.{IfOk-weaker, IfOk-from_err}
use Rattle.cover_terms.specs.declared.term.Term.{Term}
use Rattle.cover_logic.specs.Inner.Rows.{ArePrimeRows, IsClear}
use Rattle.cover_logic.proofs.dense_gates.dense_rows.Goals as goal

pub rows_of-requires-clause-clear : goal.rows_of-requires-clause-clear
rows_of-requires-clause-clear c = subst (λ (ts : List Term). All (IsClear ts) c.args.on.now) (sym c.in_ok-zeros.ensures.items) c.requires.clear

pub returns : goal.returns
returns c =
    IfOk-weaker c.rows_of.result _ _
    (λ rows p. subst (λ (ts : List Term). ArePrimeRows c.args.on.now ts c.args.width rows.items) c.in_ok-zeros.ensures.items p) c.rows_of.ensures

pub of-requires-clause-few : goal.of-requires-clause-few
of-requires-clause-few c = c.requires.few

pub of-requires-clause-fits : goal.of-requires-clause-fits
of-requires-clause-fits c = c.requires.off_fits

pub rows_of-requires-clause-few : goal.rows_of-requires-clause-few
rows_of-requires-clause-few c = c.requires.few

pub rows_of-requires-clause-fits : goal.rows_of-requires-clause-fits
rows_of-requires-clause-fits c = c.requires.fits

pub rows_of-requires-clause-table : goal.rows_of-requires-clause-table
rows_of-requires-clause-table c = c.in_ok-zeros.ensures.right

pub rows_of-requires-clause-columns : goal.rows_of-requires-clause-columns
rows_of-requires-clause-columns c = c.in_ok-zeros.ensures.columns

pub returns-in_err-zeros : goal.returns-in_err-zeros
returns-in_err-zeros c = IfOk-from_err c.from_residual.result _ c.from_residual.ensures.0

pub returns-in_err-ground : goal.returns-in_err-ground
returns-in_err-ground c = IfOk-from_err c.from_residual-in_err-ground.result _ c.from_residual-in_err-ground.ensures.0
