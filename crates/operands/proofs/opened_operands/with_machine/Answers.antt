use Rattle.std.proofs.lemmas.Result.{err_from_is_err_and}
use Rattle.operands.proofs.opened_operands.with_machine.Goals as goal

pub returns-in_err-machine : goal.returns-in_err-machine
returns-in_err-machine c = let p = err_from_is_err_and c.from_residual.result c.from_residual.ensures.1 in rw (p.1, p.2) c.in_err-machine.ensures
