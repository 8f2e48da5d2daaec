use Rattle.std.proofs.Common.{◌≡◌, ◌<◌, ℕ, length, slice_index, vec_len}
use Rattle.cubes.specs.Symbol.{symbol_of}
use Rattle.kiss_file.specs.Machine.{next}
use Rattle.io_pairs.proofs.symbols.next_states.Given as goal

abbrev pub invariant-loop-x : goal.invariant-loop-x
invariant-loop-x l = record {
  count : vec_len l.states ≡ l.x;
  below : (k : ℕ) → k < l.x → slice_index l.states.items k < length l.m.states;
  next : (k : ℕ) → k < l.x → slice_index l.states.items k ≡ next l.m l.s (symbol_of l.m.inputs k);
}
