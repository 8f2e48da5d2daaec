use Rattle.cover_split.proofs.JointLemmas.{AreSettledBelow}
use Rattle.cover_split.proofs.joint.settled.Given as goal

abbrev pub invariant-loop-pieces : goal.invariant-loop-pieces
invariant-loop-pieces l = AreSettledBelow l.cube l.lists l.pieces-index l.found
