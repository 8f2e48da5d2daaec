use Rattle.job_words.proofs.Limits.{limits_are_limits}
use Rattle.job_words.proofs.laws.limits_are_limits.Goals as goal

pub returns : goal.returns
returns c = limits_are_limits
