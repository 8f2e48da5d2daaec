use Rattle.std.proofs.Common.{◌≡◌, subst, arith}
use Rattle.std.proofs.lemmas.Result.{IfOk-from_err}
use Rattle.hs_lattice.specs.Inner.Arrangement.{AreNumbers}
use Rattle.hs_lattice.proofs.Moving.{numbers_none, numbers_more}
use Rattle.hs_lattice.proofs.arrangement.numbers.Goals as goal

pub returns-in_err-numbers : goal.returns-in_err-numbers
returns-in_err-numbers c = IfOk-from_err c.from_residual.result _ c.from_residual.ensures.0

pub returns-in_err-push : goal.returns-in_err-push
returns-in_err-push c = IfOk-from_err c.from_residual-in_err-push.result _ c.from_residual-in_err-push.ensures.0

pub loop-number-init : goal.loop-number-init
loop-number-init c = rw c.in_ok-numbers.ensures.items numbers_none

pub loop-number-preserved : goal.loop-number-preserved
loop-number-preserved c = rw c.in_ok-push.ensures.items (numbers_more c.loop-number.number c.loop-number.numbers.items c.loop-number.invariant)

pub returns : goal.returns
returns c =
    let end : c.loop-number.number ≡ c.args.count = omega arith in
    subst (λ n. AreNumbers n c.loop-number.numbers.items) end c.loop-number.invariant
