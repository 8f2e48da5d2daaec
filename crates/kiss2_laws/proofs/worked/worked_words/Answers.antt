use Rattle.std.proofs.Common.{refl, []}
use Rattle.kiss2.specs.Faults.{fault_in}
use Rattle.kiss2.specs.Kiss.{lines_read}
use Rattle.kiss2.specs.Standing.{each_once, state_names}
use Rattle.kiss2.specs.Words.{kind_of_field}
use Rattle.kiss2.specs.Laws.Faultless.{faultless_none}
use Rattle.kiss2_laws.proofs.Scanning.{scanned}
use Rattle.kiss2_laws.proofs.worked.worked_words.Goals as goal

pub returns-clause-no_count : goal.returns-clause-no_count
unfolding lines_read fault_in kind_of_field state_names each_once
returns-clause-no_count c = scanned [] _ _ faultless_none refl

pub returns-clause-fields_before_number : goal.returns-clause-fields_before_number
unfolding lines_read fault_in kind_of_field state_names each_once
returns-clause-fields_before_number c = scanned [] _ _ faultless_none refl

pub returns-clause-no_outputs : goal.returns-clause-no_outputs
unfolding lines_read fault_in kind_of_field state_names each_once
returns-clause-no_outputs c = scanned [] _ _ faultless_none refl

pub returns-clause-no_number : goal.returns-clause-no_number
unfolding lines_read fault_in kind_of_field state_names each_once
returns-clause-no_number c = scanned [] _ _ faultless_none refl

pub returns-clause-ten_digits : goal.returns-clause-ten_digits
unfolding lines_read fault_in kind_of_field state_names each_once
returns-clause-ten_digits c = scanned [] _ _ faultless_none refl

pub returns-clause-nine_digits : goal.returns-clause-nine_digits
unfolding lines_read fault_in kind_of_field state_names each_once
returns-clause-nine_digits c = scanned [] _ _ faultless_none refl

pub returns-clause-whole_count : goal.returns-clause-whole_count
unfolding lines_read fault_in kind_of_field state_names each_once
returns-clause-whole_count c = scanned [] _ _ faultless_none refl

pub returns-clause-row_count_of_no_digits : goal.returns-clause-row_count_of_no_digits
unfolding lines_read fault_in kind_of_field state_names each_once
returns-clause-row_count_of_no_digits c = scanned [] _ _ faultless_none refl

pub returns-clause-state_counts : goal.returns-clause-state_counts
unfolding lines_read fault_in kind_of_field state_names each_once
returns-clause-state_counts c = scanned [] _ _ faultless_none refl

pub returns-clause-counts_of_none : goal.returns-clause-counts_of_none
unfolding lines_read fault_in kind_of_field state_names each_once
returns-clause-counts_of_none c = scanned [] _ _ faultless_none refl

pub returns-clause-outputs_again : goal.returns-clause-outputs_again
unfolding lines_read fault_in kind_of_field state_names each_once
returns-clause-outputs_again c = scanned [] _ _ faultless_none refl

pub returns-clause-row_count_again : goal.returns-clause-row_count_again
unfolding lines_read fault_in kind_of_field state_names each_once
returns-clause-row_count_again c = scanned [] _ _ faultless_none refl

pub returns-clause-state_count_again : goal.returns-clause-state_count_again
unfolding lines_read fault_in kind_of_field state_names each_once
returns-clause-state_count_again c = scanned [] _ _ faultless_none refl

pub returns-clause-reset_again : goal.returns-clause-reset_again
unfolding lines_read fault_in kind_of_field state_names each_once
returns-clause-reset_again c = scanned [] _ _ faultless_none refl

pub returns-clause-two_resets : goal.returns-clause-two_resets
unfolding lines_read fault_in kind_of_field state_names each_once
returns-clause-two_resets c = scanned [] _ _ faultless_none refl

pub returns-clause-fields_before_long_reset : goal.returns-clause-fields_before_long_reset
unfolding lines_read fault_in kind_of_field state_names each_once
returns-clause-fields_before_long_reset c = scanned [] _ _ faultless_none refl

pub returns-clause-long_reset : goal.returns-clause-long_reset
unfolding lines_read fault_in kind_of_field state_names each_once
returns-clause-long_reset c = scanned [] _ _ faultless_none refl

pub returns-clause-open_reset : goal.returns-clause-open_reset
unfolding lines_read fault_in kind_of_field state_names each_once
returns-clause-open_reset c = scanned [] _ _ faultless_none refl

pub returns-clause-no_rows_before_reset : goal.returns-clause-no_rows_before_reset
unfolding lines_read fault_in kind_of_field state_names each_once
returns-clause-no_rows_before_reset c = scanned [] _ _ faultless_none refl

pub returns-clause-capital_word : goal.returns-clause-capital_word
unfolding lines_read fault_in kind_of_field state_names each_once
returns-clause-capital_word c = scanned [] _ _ faultless_none refl

pub returns-clause-longer_word : goal.returns-clause-longer_word
unfolding lines_read fault_in kind_of_field state_names each_once
returns-clause-longer_word c = scanned [] _ _ faultless_none refl

pub returns-clause-byte_before_word : goal.returns-clause-byte_before_word
unfolding lines_read fault_in kind_of_field state_names each_once
returns-clause-byte_before_word c = scanned [] _ _ faultless_none refl

pub returns-clause-bad_end : goal.returns-clause-bad_end
unfolding lines_read fault_in kind_of_field state_names each_once
returns-clause-bad_end c = scanned [] _ _ faultless_none refl

pub returns-clause-short_end : goal.returns-clause-short_end
unfolding lines_read fault_in kind_of_field state_names each_once
returns-clause-short_end c = scanned [] _ _ faultless_none refl

pub returns-clause-blank_lines_are_numbered : goal.returns-clause-blank_lines_are_numbered
unfolding lines_read fault_in kind_of_field state_names each_once
returns-clause-blank_lines_are_numbered c = scanned [] _ _ faultless_none refl

pub returns-clause-row_count_alone : goal.returns-clause-row_count_alone
unfolding lines_read fault_in kind_of_field state_names each_once
returns-clause-row_count_alone c = scanned [] _ _ faultless_none refl

pub returns-clause-row_counts : goal.returns-clause-row_counts
unfolding lines_read fault_in kind_of_field state_names each_once
returns-clause-row_counts c = scanned [] _ _ faultless_none refl

pub returns-clause-state_count_of_ten_digits : goal.returns-clause-state_count_of_ten_digits
unfolding lines_read fault_in kind_of_field state_names each_once
returns-clause-state_count_of_ten_digits c = scanned [] _ _ faultless_none refl

pub returns-clause-counts_of_nine_digits : goal.returns-clause-counts_of_nine_digits
unfolding lines_read fault_in kind_of_field state_names each_once
returns-clause-counts_of_nine_digits c = scanned [] _ _ faultless_none refl

pub returns-clause-dot_alone : goal.returns-clause-dot_alone
unfolding lines_read fault_in kind_of_field state_names each_once
returns-clause-dot_alone c = scanned [] _ _ faultless_none refl

pub returns-clause-bytes_after_end : goal.returns-clause-bytes_after_end
unfolding lines_read fault_in kind_of_field state_names each_once
returns-clause-bytes_after_end c = scanned [] _ _ faultless_none refl

pub returns-clause-sign : goal.returns-clause-sign
unfolding lines_read fault_in kind_of_field state_names each_once
returns-clause-sign c = scanned [] _ _ faultless_none refl

pub returns-clause-zeros : goal.returns-clause-zeros
unfolding lines_read fault_in kind_of_field state_names each_once
returns-clause-zeros c = scanned [] _ _ faultless_none refl

pub returns-clause-zero_before_many : goal.returns-clause-zero_before_many
unfolding lines_read fault_in kind_of_field state_names each_once
returns-clause-zero_before_many c = scanned [] _ _ faultless_none refl

pub returns-clause-whole_count_of_outputs : goal.returns-clause-whole_count_of_outputs
unfolding lines_read fault_in kind_of_field state_names each_once
returns-clause-whole_count_of_outputs c = scanned [] _ _ faultless_none refl

pub returns-clause-dash_reset : goal.returns-clause-dash_reset
unfolding lines_read fault_in kind_of_field state_names each_once
returns-clause-dash_reset c = scanned [] _ _ faultless_none refl

pub returns-clause-start_word : goal.returns-clause-start_word
unfolding lines_read fault_in kind_of_field state_names each_once
returns-clause-start_word c = scanned [] _ _ faultless_none refl

pub returns-clause-model_word : goal.returns-clause-model_word
unfolding lines_read fault_in kind_of_field state_names each_once
returns-clause-model_word c = scanned [] _ _ faultless_none refl

pub returns-clause-bad_short_end : goal.returns-clause-bad_short_end
unfolding lines_read fault_in kind_of_field state_names each_once
returns-clause-bad_short_end c = scanned [] _ _ faultless_none refl
