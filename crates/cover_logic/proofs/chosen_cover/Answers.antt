use Rattle.std.proofs.Common.{List, sym, subst}
use Rattle.std.specs.List.{All}
use Rattle.std.proofs.lemmas.Result.{IfOk-from_err, IfOk-weaker}
use Rattle.cover_terms.specs.declared.term.Term.{Term}
use Rattle.cover_terms.specs.Term.{FitsWidth}
use Rattle.cover_terms.specs.Lists.{Covers}
use Rattle.cover_logic.specs.Inner.Rows.{AreNeededRows}
use Rattle.cover_logic.proofs.NeededRows.{needed_primes}
use Rattle.cover_logic.proofs.chosen_cover.Goals as goal

pub dense_rows-requires-clause-few : goal.dense_rows-requires-clause-few
dense_rows-requires-clause-few c = c.is_dense.ensures c.if-is_dense.true

pub dense_rows-requires-clause-fits : goal.dense_rows-requires-clause-fits
dense_rows-requires-clause-fits c = c.requires.fits

pub dense_rows-requires-clause-off_fits : goal.dense_rows-requires-clause-off_fits
dense_rows-requires-clause-off_fits c = c.requires.off_fits

pub dense_rows-requires-clause-clear : goal.dense_rows-requires-clause-clear
dense_rows-requires-clause-clear c = c.requires.clear

pub returns-in_err-rows : goal.returns-in_err-rows
returns-in_err-rows c = IfOk-from_err c.from_residual.result _ c.from_residual.ensures.0

pub needed_by_lasts-requires-clause-few : goal.needed_by_lasts-requires-clause-few
needed_by_lasts-requires-clause-few c = c.is_dense.ensures c.if-is_dense.true

pub needed_by_lasts-requires-clause-fits : goal.needed_by_lasts-requires-clause-fits
needed_by_lasts-requires-clause-fits c = subst (λ (ts : List Term). All (FitsWidth c.args.width) ts) (sym c.deref.ensures.value) c.in_ok-rows.ensures.fits

pub needed_by_lasts-requires-clause-on_fits : goal.needed_by_lasts-requires-clause-on_fits
needed_by_lasts-requires-clause-on_fits c = c.requires.fits

pub needed_by_lasts-requires-clause-covers : goal.needed_by_lasts-requires-clause-covers
needed_by_lasts-requires-clause-covers c = subst (λ (ts : List Term). Covers ts c.args.on.now) (sym c.deref.ensures.value) c.in_ok-rows.ensures.covers

pub returns-then-is_dense : goal.returns-then-is_dense
returns-then-is_dense c =
    IfOk-weaker c.needed_by_lasts.result _ _
    (λ kept n. needed_primes c.args.on.now c.args.off.now c.args.width c.in_ok-rows.rows.items kept.items c.in_ok-rows.ensures
    (subst (λ (ts : List Term). AreNeededRows c.args.on.now ts kept.items) c.deref.ensures.value n)) c.needed_by_lasts.ensures

pub primes-requires-clause-width : goal.primes-requires-clause-width
primes-requires-clause-width c = c.requires.width

pub primes-requires-clause-fits : goal.primes-requires-clause-fits
primes-requires-clause-fits c = c.requires.fits

pub primes-requires-clause-off_fits : goal.primes-requires-clause-off_fits
primes-requires-clause-off_fits c = c.requires.off_fits

pub primes-requires-clause-clear : goal.primes-requires-clause-clear
primes-requires-clause-clear c = c.requires.clear

pub returns-in_err-primes : goal.returns-in_err-primes
returns-in_err-primes c = IfOk-from_err c.from_residual-in_err-primes.result _ c.from_residual-in_err-primes.ensures.0

pub needed_rows-requires-clause-width : goal.needed_rows-requires-clause-width
needed_rows-requires-clause-width c = c.requires.width

pub needed_rows-requires-clause-fits : goal.needed_rows-requires-clause-fits
needed_rows-requires-clause-fits c = subst (λ (ts : List Term). All (FitsWidth c.args.width) ts) (sym c.deref-2.ensures.value) c.in_ok-primes.ensures.fits

pub needed_rows-requires-clause-on_fits : goal.needed_rows-requires-clause-on_fits
needed_rows-requires-clause-on_fits c = c.requires.fits

pub needed_rows-requires-clause-covers : goal.needed_rows-requires-clause-covers
needed_rows-requires-clause-covers c = subst (λ (ts : List Term). Covers ts c.args.on.now) (sym c.deref-2.ensures.value) c.in_ok-primes.ensures.covers

pub returns : goal.returns
returns c =
    IfOk-weaker c.needed_rows.result _ _
    (λ kept n. needed_primes c.args.on.now c.args.off.now c.args.width c.in_ok-primes.primes.items kept.items c.in_ok-primes.ensures
    (subst (λ (ts : List Term). AreNeededRows c.args.on.now ts kept.items) c.deref-2.ensures.value n)) c.needed_rows.ensures
