use Rattle.std.proofs.Common.{◌-◌, length}
use Rattle.partition.specs.Partition.{blocks_of}
use Rattle.state_reduce.specs.Inner.Refinement.{IsRound}
use Rattle.state_reduce.proofs.refinement.equivalence.Given as goal

abbrev pub invariant-loop-present : goal.invariant-loop-present
invariant-loop-present l = IsRound l.m l.present

abbrev pub decreases-loop-present : goal.decreases-loop-present
decreases-loop-present l = length l.m.states - blocks_of l.present
