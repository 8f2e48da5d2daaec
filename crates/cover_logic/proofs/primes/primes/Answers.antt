use Rattle.std.proofs.lemmas.Result.{IfOk-from_err}
use Rattle.cover_logic.specs.Inner.Index.{terms_of}
use Rattle.cover_logic.proofs.PrimeRows.{clear_same, primes_same}
use Rattle.cover_logic.proofs.primes.primes.Goals as goal

pub add_rows-requires-clause-clear : goal.add_rows-requires-clause-clear
add_rows-requires-clause-clear c = clear_same c.args.on.now c.args.off.now (terms_of c.in_ok-index.index) c.in_ok-index.ensures c.requires.clear

pub returns : goal.returns
returns c =
    primes_same c.args.on.now c.args.off.now (terms_of c.in_ok-index.index) c.args.width c.add_rows.new.rows.items c.in_ok-index.ensures c.in_ok-add_rows.ensures

pub add_rows-requires-clause-width : goal.add_rows-requires-clause-width
add_rows-requires-clause-width c = c.requires.width

pub add_rows-requires-clause-fits : goal.add_rows-requires-clause-fits
add_rows-requires-clause-fits c = c.requires.fits

pub new-requires : goal.new-requires
new-requires c = c.requires.width

pub add_rows-requires-clause-none : goal.add_rows-requires-clause-none
add_rows-requires-clause-none c = c.new-rows.ensures.items

pub returns-in_err-index : goal.returns-in_err-index
returns-in_err-index c = IfOk-from_err c.from_residual.result _ c.from_residual.ensures.0

pub returns-in_err-add_rows : goal.returns-in_err-add_rows
returns-in_err-add_rows c = IfOk-from_err c.from_residual-in_err-add_rows.result _ c.from_residual-in_err-add_rows.ensures.0
