use Rattle.std.proofs.Common.{ℕ, ◌≡◌, ◌<◌, All, length, slice_index, vec_len}
use Rattle.cubes.specs.Symbol.{symbol_of}
use Rattle.kiss_file.specs.Machine.{next}
use Rattle.pair_operators.proofs.next_columns.column_at.Given as goal

abbrev pub invariant-loop-s : goal.invariant-loop-s
invariant-loop-s l = record {
  size : vec_len l.states ≡ l.s;
  inside : All (λ t. t < length l.m.states) l.states.items;
  next_state : (k : ℕ) → k < l.s → slice_index l.states.items k ≡ next l.m k (symbol_of l.m.inputs l.x);
}
