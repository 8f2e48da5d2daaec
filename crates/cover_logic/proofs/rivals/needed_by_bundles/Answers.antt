use Rattle.std.proofs.Common.{ℕ, ◌∙◌, sym, subst}
use Rattle.std.specs.List.{All}
use Rattle.std.proofs.lemmas.Result.{IfOk-weaker, IfOk-from_err}
use Rattle.cover_terms.specs.Term.{FitsWidth}
use Rattle.cover_logic.specs.Inner.Bundles.{terms_in_bundles}
use Rattle.cover_logic.proofs.NeededRows.{needed_from_same}
use Rattle.cover_terms.specs.Laws.Values.{covers_same}
use Rattle.cover_logic.proofs.rivals.needed_by_bundles.Goals as goal

pub needed_rows-requires-clause-rows : goal.needed_rows-requires-clause-rows
needed_rows-requires-clause-rows c = record {
  columns = c.in_ok-all.ensures.width ∙ sym c.in_ok-held.ensures.width;
  fits = subst (λ (w : ℕ). All (FitsWidth w) c.args.rows.now) (sym c.in_ok-held.ensures.width) c.requires.fits;
  numbers = c.in_ok-all.ensures.numbers;
}

pub needed_rows-requires-clause-covers : goal.needed_rows-requires-clause-covers
needed_rows-requires-clause-covers c =
    covers_same c.args.rows.now c.args.on.now (terms_in_bundles c.in_ok-held.held) c.in_ok-held.ensures.terms c.requires.covers

pub returns : goal.returns
returns c =
    IfOk-weaker c.needed_rows.result _ _
    (λ kept h. needed_from_same c.args.on.now (terms_in_bundles c.in_ok-held.held) c.args.rows.now kept.items c.in_ok-held.ensures.terms h) c.needed_rows.ensures

pub new-requires-clause-width : goal.new-requires-clause-width
new-requires-clause-width c = c.requires.width

pub new-requires-clause-fits : goal.new-requires-clause-fits
new-requires-clause-fits c = c.requires.on_fits

pub new-requires-2-clause-width : goal.new-requires-2-clause-width
new-requires-2-clause-width c = c.requires.width

pub new-requires-2-clause-fits : goal.new-requires-2-clause-fits
new-requires-2-clause-fits c = c.requires.fits

pub returns-in_err-left : goal.returns-in_err-left
returns-in_err-left c = IfOk-from_err c.from_residual.result _ c.from_residual.ensures.0

pub returns-in_err-held : goal.returns-in_err-held
returns-in_err-held c = IfOk-from_err c.from_residual-in_err-held.result _ c.from_residual-in_err-held.ensures.0

pub returns-in_err-all : goal.returns-in_err-all
returns-in_err-all c = IfOk-from_err c.from_residual-in_err-all.result _ c.from_residual-in_err-all.ensures.0
