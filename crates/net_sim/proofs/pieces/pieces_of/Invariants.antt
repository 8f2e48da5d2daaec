use Rattle.std.proofs.Common.{length}
use Rattle.net_sim.specs.Inner.Pieces.{HasCut}
use Rattle.net_sim.proofs.pieces.pieces_of.Given as goal

abbrev pub invariant-loop-rest : goal.invariant-loop-rest
invariant-loop-rest l = HasCut l.row l.rest l.pieces

abbrev pub decreases-loop-rest : goal.decreases-loop-rest
decreases-loop-rest l = length l.rest
