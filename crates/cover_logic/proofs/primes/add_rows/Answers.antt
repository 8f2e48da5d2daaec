use Rattle.std.proofs.lemmas.Result.{IfOk-from_err}
use Rattle.cover_logic.proofs.primes.add_rows.Goals as goal

pub add_plain_rows-requires-clause-none : goal.add_plain_rows-requires-clause-none
add_plain_rows-requires-clause-none c = c.requires.none

pub add_plain_rows-requires-clause-width : goal.add_plain_rows-requires-clause-width
add_plain_rows-requires-clause-width c = c.requires.width

pub add_plain_rows-requires-clause-fits : goal.add_plain_rows-requires-clause-fits
add_plain_rows-requires-clause-fits c = c.requires.fits

pub add_plain_rows-requires-clause-clear : goal.add_plain_rows-requires-clause-clear
add_plain_rows-requires-clause-clear c = c.requires.clear

pub add_guided_rows-requires-clause-none : goal.add_guided_rows-requires-clause-none
add_guided_rows-requires-clause-none c = c.requires.none

pub add_guided_rows-requires-clause-width : goal.add_guided_rows-requires-clause-width
add_guided_rows-requires-clause-width c = c.requires.width

pub add_guided_rows-requires-clause-fits : goal.add_guided_rows-requires-clause-fits
add_guided_rows-requires-clause-fits c = c.requires.fits

pub add_guided_rows-requires-clause-clear : goal.add_guided_rows-requires-clause-clear
add_guided_rows-requires-clause-clear c = c.requires.clear

pub returns-then-not-are_long : goal.returns-then-not-are_long
returns-then-not-are_long c = c.add_plain_rows.ensures

pub new-requires : goal.new-requires
new-requires c = c.requires.width

pub returns : goal.returns
returns c = c.add_guided_rows.ensures

pub returns-in_err-guide : goal.returns-in_err-guide
returns-in_err-guide c = IfOk-from_err c.from_residual.result _ c.from_residual.ensures.0
