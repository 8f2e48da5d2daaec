use Rattle.std.proofs.lemmas.Result.{err_from_is_err_and}
use Rattle.generated_texts.proofs.trials.trial_on.Goals as goal

pub returns-in_err-coded : goal.returns-in_err-coded
returns-in_err-coded c = let p = err_from_is_err_and c.from_residual.result c.from_residual.ensures.1 in rw (p.1, p.2) c.in_err-coded.ensures

pub returns : goal.returns
returns c = (c.in_ok-coded.ensures.0, (c.in_ok-network_of.ensures.ready, c.in_ok-network_of.ensures.trial))
