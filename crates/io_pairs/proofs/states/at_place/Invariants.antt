use Rattle.std.proofs.Common.{◌≡◌, ◌<◌, ℕ, slice_index, vec_len}
use Rattle.io_pairs.specs.Inner.Families.{value_at}
use Rattle.io_pairs.proofs.states.at_place.Given as goal

abbrev pub invariant-loop-k : goal.invariant-loop-k
invariant-loop-k l = record {
  count : vec_len l.numbers ≡ l.k;
  numbers : (j : ℕ) → j < l.k → slice_index l.numbers.items j ≡ value_at l.lists j l.place;
}
