use Rattle.std.proofs.Common.{◌≡◌, ℕ, ◌<◌, length, get_or}
use Rattle.partition.proofs.bounds.own_numbers.Given as goal

abbrev pub invariant-loop-k : goal.invariant-loop-k
invariant-loop-k l = record {
  size : length l.numbers.items ≡ l.k;
  own : (i : ℕ) → i < l.k → get_or l.numbers.items i 0 ≡ i;
}
