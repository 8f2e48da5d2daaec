use Rattle.std.specs.List.{All}
use Rattle.std.proofs.lemmas.Result.{IfOk-weaker, IfOk-from_err}
use Rattle.cover_terms.specs.Term.{FitsWidth}
use Rattle.cover_logic.specs.Inner.Rows.{IsClear}
use Rattle.cover_terms.specs.Laws.Values.{values_all}
use Rattle.cover_logic.proofs.Width.{clear_from_apart, clear_of_same, good_cover}
use Rattle.cover_logic.proofs.cover.Goals as goal

pub chosen_cover-requires-clause-fits : goal.chosen_cover-requires-clause-fits
chosen_cover-requires-clause-fits c =
    rw c.deref.ensures.value (values_all (FitsWidth c.args.width) c.args.on.now c.in_ok-ones.ones.items c.in_ok-ones.ensures c.requires.on_fits)

pub chosen_cover-requires-clause-off_fits : goal.chosen_cover-requires-clause-off_fits
chosen_cover-requires-clause-off_fits c =
    rw c.deref-2.ensures.value (values_all (FitsWidth c.args.width) c.args.off.now c.in_ok-zeros.zeros.items c.in_ok-zeros.ensures c.requires.off_fits)

pub chosen_cover-requires-clause-clear : goal.chosen_cover-requires-clause-clear
chosen_cover-requires-clause-clear c =
    let on = c.args.on.now in
    let off = c.args.off.now in
    let zeros = c.in_ok-zeros.zeros.items in
    let clear : All (IsClear zeros) on =
    clear_of_same off zeros on c.in_ok-zeros.ensures (clear_from_apart c.args.width on off c.requires.on_fits c.requires.off_fits c.requires.apart) in
    rw (c.deref.ensures.value, c.deref-2.ensures.value) (values_all (IsClear zeros) on c.in_ok-ones.ones.items c.in_ok-ones.ensures clear)

pub returns-clause-good : goal.returns-clause-good
returns-clause-good c =
    let ones = c.in_ok-ones.ones.items in
    let zeros = c.in_ok-zeros.zeros.items in
    let width = c.args.width in
    IfOk-weaker c.chosen_cover.result _ _
    (λ rows p. good_cover width rows.items c.args.on.now c.args.off.now ones zeros c.in_ok-ones.ensures c.in_ok-zeros.ensures c.requires.on_fits c.requires.off_fits
    (rw (← c.deref.ensures.value, ← c.deref-2.ensures.value) p))
    c.chosen_cover.ensures

pub returns-clause-fits : goal.returns-clause-fits
returns-clause-fits c = IfOk-weaker c.chosen_cover.result _ _ (λ rows p. p.primes.fits) c.chosen_cover.ensures

pub chosen_cover-requires-clause-width : goal.chosen_cover-requires-clause-width
chosen_cover-requires-clause-width c = c.requires.columns

pub returns-in_err-ones-clause-good : goal.returns-in_err-ones-clause-good
returns-in_err-ones-clause-good c = IfOk-from_err c.from_residual.result _ c.from_residual.ensures.0

pub returns-in_err-ones-clause-fits : goal.returns-in_err-ones-clause-fits
returns-in_err-ones-clause-fits c = IfOk-from_err c.from_residual.result _ c.from_residual.ensures.0

pub returns-in_err-zeros-clause-good : goal.returns-in_err-zeros-clause-good
returns-in_err-zeros-clause-good c = IfOk-from_err c.from_residual-in_err-zeros.result _ c.from_residual-in_err-zeros.ensures.0

pub returns-in_err-zeros-clause-fits : goal.returns-in_err-zeros-clause-fits
returns-in_err-zeros-clause-fits c = IfOk-from_err c.from_residual-in_err-zeros.result _ c.from_residual-in_err-zeros.ensures.0
