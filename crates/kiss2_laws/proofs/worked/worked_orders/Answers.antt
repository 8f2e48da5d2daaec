use Rattle.std.proofs.Common.{refl, []}
use Rattle.kiss2.specs.Faults.{fault_in}
use Rattle.kiss2.specs.Kiss.{lines_read}
use Rattle.kiss2.specs.Standing.{each_once, state_names}
use Rattle.kiss2.specs.Words.{kind_of_field}
use Rattle.kiss2.specs.Laws.Faultless.{faultless_none}
use Rattle.kiss2_laws.proofs.Scanning.{scanned}
use Rattle.kiss2_laws.proofs.worked.worked_orders.Goals as goal

pub returns-clause-cube_before_state : goal.returns-clause-cube_before_state
unfolding lines_read fault_in kind_of_field state_names each_once
returns-clause-cube_before_state c = scanned [] _ _ faultless_none refl

pub returns-clause-state_before_output : goal.returns-clause-state_before_output
unfolding lines_read fault_in kind_of_field state_names each_once
returns-clause-state_before_output c = scanned [] _ _ faultless_none refl

pub returns-clause-fields_before_cube : goal.returns-clause-fields_before_cube
unfolding lines_read fault_in kind_of_field state_names each_once
returns-clause-fields_before_cube c = scanned [] _ _ faultless_none refl

pub returns-clause-counts_before_fields : goal.returns-clause-counts_before_fields
unfolding lines_read fault_in kind_of_field state_names each_once
returns-clause-counts_before_fields c = scanned [] _ _ faultless_none refl

pub returns-clause-again_before_form : goal.returns-clause-again_before_form
unfolding lines_read fault_in kind_of_field state_names each_once
returns-clause-again_before_form c = scanned [] _ _ faultless_none refl

pub returns-clause-byte_before_again : goal.returns-clause-byte_before_again
unfolding lines_read fault_in kind_of_field state_names each_once
returns-clause-byte_before_again c = scanned [] _ _ faultless_none refl

pub returns-clause-few_inputs : goal.returns-clause-few_inputs
unfolding lines_read fault_in kind_of_field state_names each_once
returns-clause-few_inputs c = scanned [] _ _ faultless_none refl

pub returns-clause-names_need_counts : goal.returns-clause-names_need_counts
unfolding lines_read fault_in kind_of_field state_names each_once
returns-clause-names_need_counts c = scanned [] _ _ faultless_none refl

pub returns-clause-shared_name : goal.returns-clause-shared_name
unfolding lines_read fault_in kind_of_field state_names each_once
returns-clause-shared_name c = scanned [] _ _ faultless_none refl

pub returns-clause-rows_past_their_count : goal.returns-clause-rows_past_their_count
unfolding lines_read fault_in kind_of_field state_names each_once
returns-clause-rows_past_their_count c = scanned [] _ _ faultless_none refl

pub returns-clause-outputs_again_before_form : goal.returns-clause-outputs_again_before_form
unfolding lines_read fault_in kind_of_field state_names each_once
returns-clause-outputs_again_before_form c = scanned [] _ _ faultless_none refl

pub returns-clause-row_count_again_before_form : goal.returns-clause-row_count_again_before_form
unfolding lines_read fault_in kind_of_field state_names each_once
returns-clause-row_count_again_before_form c = scanned [] _ _ faultless_none refl

pub returns-clause-state_count_again_before_number : goal.returns-clause-state_count_again_before_number
unfolding lines_read fault_in kind_of_field state_names each_once
returns-clause-state_count_again_before_number c = scanned [] _ _ faultless_none refl

pub returns-clause-reset_again_before_form : goal.returns-clause-reset_again_before_form
unfolding lines_read fault_in kind_of_field state_names each_once
returns-clause-reset_again_before_form c = scanned [] _ _ faultless_none refl
