use Rattle.std.proofs.Common.{length}
use Rattle.partition.specs.RelationBlocks.{IsSplitUpTo}
use Rattle.output_consistent.specs.Inner.Agreement.{AgreeInEach}
use Rattle.output_consistent.proofs.bits.bit_partition.Given as goal

abbrev pub invariant-loop-s : goal.invariant-loop-s
invariant-loop-s l = IsSplitUpTo (AgreeInEach l.m l.bit) (length l.m.states) l.s l.p
