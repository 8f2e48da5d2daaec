use Rattle.std.proofs.Math.Nat.{lt_of_le_of_lt}
use Rattle.std.proofs.lemmas.Result.{IfOk-from_err}
use Rattle.cover_logic.proofs.primes.guided_row.Goals as goal

pub guided_growth-requires : goal.guided_growth-requires
guided_growth-requires c = c.requires.clear

pub returns-in_err-grown : goal.returns-in_err-grown
returns-in_err-grown c = IfOk-from_err c.from_residual.result _ c.from_residual.ensures.0

pub returns-in_err-advice : goal.returns-in_err-advice
returns-in_err-advice c = IfOk-from_err c.from_residual-in_err-advice.result _ c.from_residual-in_err-advice.ensures.0

pub widened-wide-requires-clause-clear : goal.widened-wide-requires-clause-clear
widened-wide-requires-clause-clear c = c.in_ok-grown.ensures.clear

pub raise-row-requires-clause-width : goal.raise-row-requires-clause-width
raise-row-requires-clause-width c = c.requires.width

pub raise-row-requires-clause-fits : goal.raise-row-requires-clause-fits
raise-row-requires-clause-fits c = lt_of_le_of_lt c.widened-wide.ensures.care (lt_of_le_of_lt c.in_ok-grown.ensures.care c.requires.fits)

pub raise-row-requires-clause-clear : goal.raise-row-requires-clause-clear
raise-row-requires-clause-clear c = c.widened-wide.ensures.clear

pub returns-in_err-drop_included : goal.returns-in_err-drop_included
returns-in_err-drop_included c = IfOk-from_err c.from_residual-in_err-drop_included.result _ c.from_residual-in_err-drop_included.ensures.0

pub returns : goal.returns
returns c =
    let row = c.raise-row.ensures in
    record {
      includes = λ x p. row.includes x (c.widened-wide.ensures.includes x (c.in_ok-grown.ensures.includes x p));
      clear = row.clear;
      prime = row.prime;
      fits = row.fits;
    }
