use Rattle.std.proofs.Common.{ℕ, ◌<◌, List, length, get_or}
use Rattle.partition.specs.Order.{Before}
use Rattle.parallel_split.proofs.ordering.place_for.Given as goal

abbrev pub invariant-loop-place : goal.invariant-loop-place
invariant-loop-place l = (k : ℕ) (d : List ℕ) → k < l.place → k < length l.found → Before l.p (get_or l.found k d) → ⊥
