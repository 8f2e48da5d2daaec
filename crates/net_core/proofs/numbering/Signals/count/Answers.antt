use Rattle.std.proofs.Common.{subst}
use Rattle.net_core.specs.Causes.{AreOnce}
use Rattle.net_core.proofs.numbering.Signals.count.Goals as goal

pub returns-clause-once : goal.returns-clause-once
returns-clause-once c = subst AreOnce c.self.view_is c.self.invariant.0
