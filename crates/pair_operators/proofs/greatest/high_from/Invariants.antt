use Rattle.std.proofs.Common.{length}
use Rattle.partition.specs.RelationBlocks.{IsSplitUpTo}
use Rattle.pair_operators.specs.NextColumns.{AreAsked}
use Rattle.pair_operators.specs.NextBlocks.{Goes}
use Rattle.pair_operators.specs.Inner.Keys.{AreKeys}
use Rattle.pair_operators.proofs.greatest.high_from.Given as goal

abbrev pub invariant-loop-s : goal.invariant-loop-s
invariant-loop-s l = record {
  split : IsSplitUpTo (Goes l.m l.q) (length l.m.states) l.s l.p;
  keys : AreKeys l.m l.q l.keys;
  asked : AreAsked l.m l.asked;
}
