use Rattle.net_core.proofs.Exclusive.{accepted}
use Rattle.net_core.proofs.checker.check.Goals as goal

pub returns-clause-accepts : goal.returns-clause-accepts
returns-clause-accepts c = accepted c.args.net.now c.order_of.result c.order_of.ensures.cause
