use Rattle.std.proofs.Common.{length}
use Rattle.partition.specs.RelationBlocks.{IsSplitUpTo}
use Rattle.state_reduce.specs.Inner.Refinement.{StayTogether}
use Rattle.state_reduce.proofs.refinement.refined.Given as goal

abbrev pub invariant-loop-s : goal.invariant-loop-s
invariant-loop-s l = IsSplitUpTo (StayTogether l.m l.p) (length l.m.states) l.s l.finer
