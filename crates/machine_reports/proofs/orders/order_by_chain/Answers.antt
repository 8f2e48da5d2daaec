use Rattle.machine_reports.proofs.Defining.{none_apart}
use Rattle.machine_reports.proofs.orders.order_by_chain.Goals as goal

pub returns-in-Ok-clause-judged : goal.returns-in-Ok-clause-judged
returns-in-Ok-clause-judged c = (none_apart c.args.work.now.machine c.in-Ok.k c.in-Ok.ensures.order, c.in-Ok.ensures.order)
