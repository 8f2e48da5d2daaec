use Rattle.cover_split.proofs.JointLemmas.{AreListsForBelow}
use Rattle.cover_split.proofs.joint.pieces_of_states.Given as goal

abbrev pub invariant-loop-s : goal.invariant-loop-s
invariant-loop-s l = AreListsForBelow l.m l.states l.s-index l.lists.items
