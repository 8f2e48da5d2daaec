use Rattle.partition.specs.RelationBlocks.{IsSearched}
use Rattle.state_reduce.specs.Inner.Refinement.{StayTogether}
use Rattle.state_reduce.proofs.refinement.first_staying.Given as goal

abbrev pub invariant-loop-t : goal.invariant-loop-t
invariant-loop-t l = IsSearched (StayTogether l.m l.p) l.so_far l.s l.t l.blocks
