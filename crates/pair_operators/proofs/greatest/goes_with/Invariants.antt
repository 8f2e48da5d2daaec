use Rattle.partition.specs.RelationBlocks.{IsSearched}
use Rattle.pair_operators.specs.NextBlocks.{Goes}
use Rattle.pair_operators.proofs.greatest.goes_with.Given as goal

abbrev pub invariant-loop-t : goal.invariant-loop-t
invariant-loop-t l = IsSearched (Goes l.m l.q) l.p l.s l.t l.blocks
