use Rattle.std.proofs.Common.{ℕ, ◌↔◌, All, length, take}
use Rattle.partition.specs.Partition.{IsPartition, Together}
use Rattle.parallel_split.proofs.spare_members.meet_with_all.Given as goal

abbrev pub invariant-loop-p : goal.invariant-loop-p
invariant-loop-p l = record {
  lawful : IsPartition (length l.fn.start) l.meet;
  together : (s t : ℕ) → Together l.meet s t ↔ (Together l.fn.start s t × All (λ p. Together p s t) (take l.p-index l.list));
}
