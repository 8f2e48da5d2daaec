use Rattle.std.proofs.Common.{refl, arith}
use Rattle.net_core.proofs.Judged.{denotes_from_test, nothing_from_fault}
use Rattle.net_core.proofs.worked.worked_readings.Goals as goal

pub returns-clause-active_high : goal.returns-clause-active_high
returns-clause-active_high c = nothing_from_fault _ refl

pub returns-clause-active_low : goal.returns-clause-active_low
returns-clause-active_low c = nothing_from_fault _ refl

pub returns-clause-asynchronous : goal.returns-clause-asynchronous
returns-clause-asynchronous c = nothing_from_fault _ refl

pub returns-clause-two_digits : goal.returns-clause-two_digits
returns-clause-two_digits c = nothing_from_fault _ refl

pub returns-clause-row_after_latch : goal.returns-clause-row_after_latch
returns-clause-row_after_latch c = nothing_from_fault _ refl

pub returns-clause-row_after_clock : goal.returns-clause-row_after_clock
returns-clause-row_after_clock c = nothing_from_fault _ refl

pub returns-clause-clock_beside_inputs : goal.returns-clause-clock_beside_inputs
returns-clause-clock_beside_inputs c = denotes_from_test _ _ (omega arith) refl refl refl refl refl refl refl

pub returns-clause-clock_word_beside_inputs : goal.returns-clause-clock_word_beside_inputs
returns-clause-clock_word_beside_inputs c = denotes_from_test _ _ (omega arith) refl refl refl refl refl refl refl

pub returns-clause-skipped_lines : goal.returns-clause-skipped_lines
returns-clause-skipped_lines c = denotes_from_test _ _ (omega arith) refl refl refl refl refl refl refl
