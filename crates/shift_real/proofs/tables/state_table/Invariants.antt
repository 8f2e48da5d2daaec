-- The states of the contents so far.
use Rattle.std.proofs.Common.{◌≡◌, ℕ, ◌*◌, ◌^◌, ◌<◌, length, slice_index, slice_get, Some}
use Rattle.shift_real.specs.declared.contents.Content.{Content}
use Rattle.shift_real.proofs.tables.state_table.Given as goal

abbrev pub invariant-loop-content : goal.invariant-loop-content
invariant-loop-content l = record {
  size : length l.table.items ≡ 2 ^ (l.k * l.m.inputs);
  written : (j : ℕ) (content : Content) → j < l.content-index → slice_get l.contents j ≡ Some content → slice_index l.table.items content.latches ≡ content.state;
}
