use Rattle.std.proofs.Common.{◌≡◌, ℕ, ◌+◌, ◌*◌, ◌<◌, length, get_or}
use Rattle.partition.proofs.bounds.block_pairs.Given as goal

abbrev pub invariant-loop-s : goal.invariant-loop-s
invariant-loop-s l = record {
  size : length l.values.items ≡ l.s;
  pairs : (t : ℕ) → t < l.s → get_or l.values.items t 0 ≡ get_or l.p t 0 * l.width + get_or l.q t 0;
}
