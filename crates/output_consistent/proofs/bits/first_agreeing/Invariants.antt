use Rattle.std.proofs.Common.{ℕ, ◌<◌}
use Rattle.output_consistent.specs.Inner.Agreement.{AgreeInEach}
use Rattle.output_consistent.proofs.bits.first_agreeing.Given as goal

abbrev pub invariant-loop-t : goal.invariant-loop-t
invariant-loop-t l = (u : ℕ) → u < l.t → AgreeInEach l.m l.bit u l.s → ⊥
