use Rattle.cover_split.proofs.JointLemmas.{AreListsMetBelow}
use Rattle.cover_split.proofs.joint.meeting.Given as goal

abbrev pub invariant-loop-pieces : goal.invariant-loop-pieces
invariant-loop-pieces l = AreListsMetBelow l.cube l.lists l.pieces-index l.met.items
