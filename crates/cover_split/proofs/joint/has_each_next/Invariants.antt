use Rattle.std.proofs.Common.{take}
use Rattle.cover_split.specs.Inner.Joints.{HasEachNext}
use Rattle.cover_split.proofs.joint.has_each_next.Given as goal

abbrev pub invariant-loop-piece : goal.invariant-loop-piece
invariant-loop-piece l = HasEachNext (take l.piece-index l.pieces) l.block
