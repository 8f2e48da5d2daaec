use Rattle.cover_split.specs.Inner.Joints.{IsDash}
use Rattle.cover_split.proofs.joint.most_looked_at.Given as goal

abbrev pub invariant-loop-place : goal.invariant-loop-place
invariant-loop-place l = IsDash l.cube l.best
