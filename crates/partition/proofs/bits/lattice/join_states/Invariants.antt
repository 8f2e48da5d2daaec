use Rattle.std.proofs.Common.{◌≡◌}
use Rattle.std.specs.Bool.{OnFalse}
use Rattle.partition.proofs.Counting.{ones}
use Rattle.partition.proofs.JoinedStates.{IsJoiningStates}
use Rattle.partition.proofs.bits.lattice.join_states.Given as goal

abbrev pub invariant-loop-t : goal.invariant-loop-t
invariant-loop-t l = record {
  joining : IsJoiningStates l.initial.partition l.states l.s l.left l.partition;
  kept : OnFalse l.changed (l.partition ≡ l.initial.partition);
}

abbrev pub decreases-loop-t : goal.decreases-loop-t
decreases-loop-t l = ones l.left 256
