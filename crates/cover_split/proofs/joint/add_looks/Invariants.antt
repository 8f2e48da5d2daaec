use Rattle.cover_split.proofs.joint.add_looks.Given as goal

abbrev pub decreases-loop-rest : goal.decreases-loop-rest
decreases-loop-rest l = l.rest
