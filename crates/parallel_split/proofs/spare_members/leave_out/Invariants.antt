use Rattle.std.proofs.Common.{◌-◌, All, length}
use Rattle.partition.specs.Partition.{IsPartition}
use Rattle.parallel_split.proofs.Spared.{Leaving}
use Rattle.parallel_split.proofs.spare_members.leave_out.Given as goal

abbrev pub invariant-loop-place : goal.invariant-loop-place
invariant-loop-place l = record {
  lawful : All (IsPartition l.n) l.list.items;
  leaving : Leaving l.n l.fn.list.items l.list.items l.place;
}

abbrev pub decreases-loop-place : goal.decreases-loop-place
decreases-loop-place l = length l.list.items - l.place
