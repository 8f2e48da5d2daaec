use Rattle.cover_split.proofs.JointLemmas.{AreMetBelow}
use Rattle.cover_split.proofs.joint.those_meeting.Given as goal

abbrev pub invariant-loop-piece : goal.invariant-loop-piece
invariant-loop-piece l = AreMetBelow l.cube l.pieces l.piece-index l.met
