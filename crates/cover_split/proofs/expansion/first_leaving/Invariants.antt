use Rattle.std.proofs.Common.{take}
use Rattle.cover_split.proofs.JointLemmas.{IsScanned}
use Rattle.cover_split.proofs.expansion.first_leaving.Given as goal

abbrev pub invariant-loop-joint : goal.invariant-loop-joint
invariant-loop-joint l = IsScanned (take l.joint-index l.joints) l.least
