use Rattle.cover_logic.proofs.Planes.{AreOpen}
use Rattle.cover_logic.proofs.bundles.Bundle.put_met.Given as goal

abbrev pub invariant-loop-open : goal.invariant-loop-open
invariant-loop-open l = AreOpen l.row l.self.entries.items l.fn.met.items l.met.items l.open

abbrev pub decreases-loop-open : goal.decreases-loop-open
decreases-loop-open l = l.open
