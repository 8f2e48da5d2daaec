use Rattle.partition.specs.RelationBlocks.{IsSearched}
use Rattle.state_reduce.specs.Inner.Refinement.{AgreeAlways}
use Rattle.state_reduce.proofs.refinement.first_agreeing.Given as goal

abbrev pub invariant-loop-t : goal.invariant-loop-t
invariant-loop-t l = IsSearched (AgreeAlways l.m) l.so_far l.s l.t l.blocks
