use Rattle.std.proofs.Common.{ℕ, ◌<◌, length}
use Rattle.cover_split.specs.StateCover.{block_at}
use Rattle.cover_split.proofs.holders.first_missing.Given as goal

abbrev pub invariant-loop-s : goal.invariant-loop-s
invariant-loop-s l = (t : ℕ) → t < l.s → 0 < length (block_at l.lists t)
