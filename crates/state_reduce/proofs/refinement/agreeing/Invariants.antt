use Rattle.std.proofs.Common.{length}
use Rattle.partition.specs.RelationBlocks.{IsSplitUpTo}
use Rattle.state_reduce.specs.Inner.Refinement.{AgreeAlways}
use Rattle.state_reduce.proofs.refinement.agreeing.Given as goal

abbrev pub invariant-loop-s : goal.invariant-loop-s
invariant-loop-s l = IsSplitUpTo (AgreeAlways l.m) (length l.m.states) l.s l.p
