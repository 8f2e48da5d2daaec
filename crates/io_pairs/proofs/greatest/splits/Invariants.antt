use Rattle.std.proofs.Common.{◌≡◌, ◌+◌, ◌*◌, ◌<◌, ℕ, length, slice_index, vec_len}
use Rattle.io_pairs.proofs.greatest.splits.Given as goal

abbrev pub invariant-loop-x : goal.invariant-loop-x
invariant-loop-x l = record {
  count : vec_len l.numbers ≡ l.x;
  numbers : (k : ℕ) → k < l.x → slice_index l.numbers.items k ≡ slice_index l.classes k * length l.q + slice_index l.q (slice_index l.function k);
}
