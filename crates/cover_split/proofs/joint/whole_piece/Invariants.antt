use Rattle.cover_split.proofs.JointLemmas.{IsLookedAt}
use Rattle.cover_split.proofs.joint.whole_piece.Given as goal

abbrev pub invariant-loop-piece : goal.invariant-loop-piece
invariant-loop-piece l = IsLookedAt l.cube l.pieces l.piece-index l.place
