use Rattle.std.proofs.Common.{◌≡◌, ℕ, subst, arith}
use Rattle.cover_logic.proofs.Raising.{IsPrimeBelow, raised_once, prime_from_below, raised_row}
use Rattle.cover_logic.proofs.wide_rows.raise.Goals as goal

pub loop-column-init : goal.loop-column-init
loop-column-init g c = (raised_row c.args.row (g.O.Off.terms c.args.off.now) c.args.width c.requires.clear c.requires.fits, c.requires.can)

pub dashed-raised-requires-clause-can : goal.dashed-raised-requires-clause-can
dashed-raised-requires-clause-can g c = c.loop-column.invariant.1

pub dashed-raised-requires-clause-clear : goal.dashed-raised-requires-clause-clear
dashed-raised-requires-clause-clear g c = c.loop-column.invariant.0.clear

pub loop-column-preserved : goal.loop-column-preserved
loop-column-preserved g c =
    let dashed = c.dashed-raised.ensures in (
      raised_once _ _ _ _ c.loop-column.raised _ c.loop-column.invariant.0 dashed.looser dashed.clear dashed.needed dashed.care,
      g.met.O.Off.can_ask_wider c.args.off.now c.loop-column.raised c.dashed-raised.result dashed.care c.loop-column.invariant.1,
    )

pub returns-clause-prime : goal.returns-clause-prime
returns-clause-prime g c =
    let off = g.O.Off.terms c.args.off.now in
    let raised = c.loop-column.invariant.0 in
    let all : c.loop-column.column ≡ c.args.width = omega arith in
    prime_from_below off c.args.width c.loop-column.raised raised.fits
    (subst (λ (n : ℕ). IsPrimeBelow off n c.loop-column.raised) all raised.prime)

pub returns-clause-includes : goal.returns-clause-includes
returns-clause-includes g c = c.loop-column.invariant.0.includes

pub returns-clause-clear : goal.returns-clause-clear
returns-clause-clear g c = c.loop-column.invariant.0.clear

pub returns-clause-fits : goal.returns-clause-fits
returns-clause-fits g c = c.loop-column.invariant.0.fits
