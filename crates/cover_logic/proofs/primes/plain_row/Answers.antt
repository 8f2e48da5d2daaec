use Rattle.std.proofs.lemmas.Result.{IfOk-from_err}
use Rattle.std.proofs.Math.Nat.{lt_of_le_of_lt}
use Rattle.cover_logic.proofs.primes.plain_row.Goals as goal

pub raise-requires-clause-width : goal.raise-requires-clause-width
raise-requires-clause-width c = c.requires.width

pub raise-requires-clause-fits : goal.raise-requires-clause-fits
raise-requires-clause-fits c = lt_of_le_of_lt c.in_ok-grown.ensures.care c.requires.fits

pub raise-requires-clause-clear : goal.raise-requires-clause-clear
raise-requires-clause-clear c = c.in_ok-grown.ensures.clear

pub returns : goal.returns
returns c = let row = c.raise.ensures in record { includes = λ x p. row.includes x (c.in_ok-grown.ensures.includes x p); clear = row.clear; prime = row.prime; fits = row.fits }

pub grow-requires : goal.grow-requires
grow-requires c = c.requires.clear

pub returns-in_err-grown : goal.returns-in_err-grown
returns-in_err-grown c = IfOk-from_err c.from_residual.result _ c.from_residual.ensures.0
