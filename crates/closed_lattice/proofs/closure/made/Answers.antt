use Rattle.std.proofs.Common.{sym, subst}
use Rattle.std.proofs.lemmas.Result.{IfOk-weaker}
use Rattle.closed_lattice.specs.ClosedPartitions.{IsPrincipal}
use Rattle.closed_lattice.proofs.closure.made.Goals as goal

pub returns-in-Some : goal.returns-in-Some
returns-in-Some c = IfOk-weaker c.copy.result _ _ (λ p same. subst (IsPrincipal c.args.m.now c.args.s c.args.t) (sym same) c.in-Some.ensures) c.copy.ensures.same

pub returns-in-None : goal.returns-in-None
returns-in-None c = rw (c.from.ensures, c.from-in-None.ensures) at c.principal_beside.ensures
