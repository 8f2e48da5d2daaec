use Rattle.std.proofs.Common.{◌≡◌, ℕ, ◌<◌, false, []}
use Rattle.std.specs.Prelude.{length, nat_lt, slice_index_or}
use Rattle.kiss2.proofs.line_operands.judge_lengths.Given as goal

abbrev pub invariant-loop-name : goal.invariant-loop-name
invariant-loop-name l = (k : ℕ) → k < l.name-index → nat_lt 64 (length (slice_index_or l.names k [])) ≡ false
