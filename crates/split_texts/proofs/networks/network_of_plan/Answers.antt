use Rattle.std.proofs.lemmas.Result.{err_from_is_err_and}
use Rattle.split_texts.proofs.networks.network_of_plan.Goals as goal

pub returns-in_err-codes : goal.returns-in_err-codes
returns-in_err-codes c = let p = err_from_is_err_and c.from_residual.result c.from_residual.ensures.1 in rw (p.1, p.2) c.in_err-codes.ensures

pub returns : goal.returns
returns c = (c.in_ok-codes.ensures.0, (c.in_ok-codes.ensures.1.apart, c.in_ok-network_of_codes.ensures.ready, c.in_ok-network_of_codes.ensures.made))
