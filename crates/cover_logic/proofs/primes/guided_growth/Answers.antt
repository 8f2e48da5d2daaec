use Rattle.std.proofs.lemmas.Result.{IfOk-from_err}
use Rattle.cover_logic.proofs.primes.guided_growth.Goals as goal

pub grow-requires : goal.grow-requires
grow-requires c = c.requires

pub returns : goal.returns
returns c = c.grow.ensures

pub returns-in_err-prospects : goal.returns-in_err-prospects
returns-in_err-prospects c = IfOk-from_err c.from_residual.result _ c.from_residual.ensures.0
