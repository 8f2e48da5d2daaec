use Rattle.cover_logic.proofs.Nodes.{ApartFrom}
use Rattle.cover_logic.proofs.index.Index.met_by.Given as goal

abbrev pub invariant-loop-end : goal.invariant-loop-end
invariant-loop-end l = ApartFrom l.row l.self.nodes.items l.end

abbrev pub decreases-loop-end : goal.decreases-loop-end
decreases-loop-end l = l.end
