-- The chain so far, and M of its last member, beside the symbols that were asked.
use Rattle.pair_operators.specs.NextColumns.{AreAsked}
use Rattle.partition.specs.Partition.{blocks_of}
use Rattle.shift_real.specs.Inner.RisingChain.{IsRisingTo}
use Rattle.shift_real.proofs.chains.chain.Given as goal

abbrev pub invariant-rising : goal.invariant-rising
invariant-rising l = record {
  chain : IsRisingTo l.m l.members l.last l.next;
  asked : AreAsked l.m l.asked;
}

abbrev pub decreases-rising : goal.decreases-rising
decreases-rising l = blocks_of l.last
