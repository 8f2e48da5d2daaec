use Rattle.net_core.proofs.Limits.{within_each}
use Rattle.net_core.proofs.laws.limits_by_statement.Goals as goal

pub returns : goal.returns
returns c = within_each
