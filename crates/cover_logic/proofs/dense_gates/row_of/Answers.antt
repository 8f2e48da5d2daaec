use Rattle.std.proofs.Common.{ℕ, sym, subst, arith}
use Rattle.std.proofs.Math.Nat.{lt_of_le_of_lt}
use Rattle.cover_terms.specs.Term.{FitsWidth}
use Rattle.cover_logic.proofs.dense_gates.row_of.Goals as goal

pub widened-wide-requires-clause-can : goal.widened-wide-requires-clause-can
widened-wide-requires-clause-can c = (c.requires.table, subst (λ (w : ℕ). FitsWidth w c.args.seed) (sym c.requires.width) c.requires.fits)

pub widened-wide-requires-clause-clear : goal.widened-wide-requires-clause-clear
widened-wide-requires-clause-clear c = c.requires.clear

pub raise-requires-clause-width : goal.raise-requires-clause-width
raise-requires-clause-width c = let few = c.requires.few in omega (arith, few)

pub raise-requires-clause-fits : goal.raise-requires-clause-fits
raise-requires-clause-fits c = lt_of_le_of_lt c.widened-wide.ensures.care c.requires.fits

pub raise-requires-clause-can : goal.raise-requires-clause-can
raise-requires-clause-can c = (
  c.requires.table,
  subst (λ (w : ℕ). FitsWidth w c.widened-wide.result) (sym c.requires.width) (lt_of_le_of_lt c.widened-wide.ensures.care c.requires.fits),
)

pub raise-requires-clause-clear : goal.raise-requires-clause-clear
raise-requires-clause-clear c = c.widened-wide.ensures.clear

pub returns : goal.returns
returns c = let row = c.raise.ensures in record { includes = λ x p. row.includes x (c.widened-wide.ensures.includes x p); clear = row.clear; prime = row.prime; fits = row.fits }
