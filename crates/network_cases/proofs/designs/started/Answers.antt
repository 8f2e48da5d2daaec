use Rattle.network_cases.proofs.Started.{can_be_text, is_started}
use Rattle.network_cases.proofs.designs.started.Goals as goal

pub returns-in-Ok-clause-text : goal.returns-in-Ok-clause-text
returns-in-Ok-clause-text c = can_be_text c.in-Ok.network c.new.result c.new.ensures c.in-Ok.ensures.read

pub returns-in-Ok-clause-network : goal.returns-in-Ok-clause-network
returns-in-Ok-clause-network c = is_started c.in-Ok.network c.in-Ok.ensures.read
