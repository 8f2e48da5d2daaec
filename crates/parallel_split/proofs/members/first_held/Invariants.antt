use Rattle.std.proofs.Common.{ℕ, ◌<◌}
use Rattle.partition.specs.Partition.{Together}
use Rattle.parallel_split.proofs.members.first_held.Given as goal

abbrev pub invariant-loop-s : goal.invariant-loop-s
invariant-loop-s l = (u v : ℕ) → u < l.s → u < v → Together l.p u v → ⊥
