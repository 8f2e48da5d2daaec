use Rattle.std.proofs.Common.{ℕ, ◌<◌}
use Rattle.partition.specs.Partition.{Together}
use Rattle.parallel_split.proofs.members.first_partner.Given as goal

abbrev pub invariant-loop-t : goal.invariant-loop-t
invariant-loop-t l = (v : ℕ) → l.s < v → v < l.t → Together l.p l.s v → ⊥
