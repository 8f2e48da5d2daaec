-- No two contents so far are of different classes.
use Rattle.std.proofs.Common.{◌≡◌, ℕ, ◌<◌, ◌^◌, slice_index, bit_xor}
use Rattle.shift_real.proofs.output_reads.latch_matters.Given as goal

abbrev pub invariant-loop-number : goal.invariant-loop-number
invariant-loop-number l = (n : ℕ) → n < l.number → slice_index l.classes n ≡ slice_index l.classes (bit_xor n (2 ^ l.latch))
