-- The latches so far.
use Rattle.std.proofs.Common.{◌↔◌, ℕ, ◌<◌}
use Rattle.dependence.specs.SufficientBits.{InWord}
use Rattle.shift_real.specs.Inner.OutputReads.{FlipMatters}
use Rattle.shift_real.proofs.output_reads.latches_read.Given as goal

abbrev pub invariant-loop-latch : goal.invariant-loop-latch
invariant-loop-latch l = (d : ℕ) → InWord l.latches d ↔ (d < l.latch × FlipMatters l.classes d)
