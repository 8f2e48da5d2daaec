use Rattle.std.proofs.Common.{◌≡◌}
use Rattle.std.specs.Bool.{OnFalse}
use Rattle.partition.proofs.JoinedStates.{IsJoiningRows}
use Rattle.partition.proofs.bits.BitPart.join_into.Given as goal

abbrev pub invariant-loop-i : goal.invariant-loop-i
invariant-loop-i l = record {
  joining : IsJoiningRows l.initial.partition l.self l.rows l.width l.i l.partition;
  kept : OnFalse l.changed (l.partition ≡ l.initial.partition);
}
