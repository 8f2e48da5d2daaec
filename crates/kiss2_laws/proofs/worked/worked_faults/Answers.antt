use Rattle.std.proofs.Common.{refl, []}
use Rattle.kiss2.specs.Faults.{fault_in}
use Rattle.kiss2.specs.Kiss.{lines_read}
use Rattle.kiss2.specs.Standing.{each_once, state_names}
use Rattle.kiss2.specs.Words.{kind_of_field}
use Rattle.kiss2.specs.Laws.Faultless.{faultless_none}
use Rattle.kiss2_laws.proofs.Scanning.{scanned}
use Rattle.kiss2_laws.proofs.worked.worked_faults.Goals as goal

pub returns-clause-nothing : goal.returns-clause-nothing
unfolding lines_read fault_in kind_of_field state_names each_once
returns-clause-nothing c = scanned [] _ _ faultless_none refl

pub returns-clause-reset_unknown : goal.returns-clause-reset_unknown
unfolding lines_read fault_in kind_of_field state_names each_once
returns-clause-reset_unknown c = scanned [] _ _ faultless_none refl

pub returns-clause-no_inputs : goal.returns-clause-no_inputs
unfolding lines_read fault_in kind_of_field state_names each_once
returns-clause-no_inputs c = scanned [] _ _ faultless_none refl

pub returns-clause-many_inputs : goal.returns-clause-many_inputs
unfolding lines_read fault_in kind_of_field state_names each_once
returns-clause-many_inputs c = scanned [] _ _ faultless_none refl

pub returns-clause-again : goal.returns-clause-again
unfolding lines_read fault_in kind_of_field state_names each_once
returns-clause-again c = scanned [] _ _ faultless_none refl

pub returns-clause-counts_missing : goal.returns-clause-counts_missing
unfolding lines_read fault_in kind_of_field state_names each_once
returns-clause-counts_missing c = scanned [] _ _ faultless_none refl

pub returns-clause-any_state : goal.returns-clause-any_state
unfolding lines_read fault_in kind_of_field state_names each_once
returns-clause-any_state c = scanned [] _ _ faultless_none refl

pub returns-clause-bad_cube : goal.returns-clause-bad_cube
unfolding lines_read fault_in kind_of_field state_names each_once
returns-clause-bad_cube c = scanned [] _ _ faultless_none refl

pub returns-clause-bad_output : goal.returns-clause-bad_output
unfolding lines_read fault_in kind_of_field state_names each_once
returns-clause-bad_output c = scanned [] _ _ faultless_none refl

pub returns-clause-unknown_word : goal.returns-clause-unknown_word
unfolding lines_read fault_in kind_of_field state_names each_once
returns-clause-unknown_word c = scanned [] _ _ faultless_none refl

pub returns-clause-bad_fields : goal.returns-clause-bad_fields
unfolding lines_read fault_in kind_of_field state_names each_once
returns-clause-bad_fields c = scanned [] _ _ faultless_none refl

pub returns-clause-bad_byte : goal.returns-clause-bad_byte
unfolding lines_read fault_in kind_of_field state_names each_once
returns-clause-bad_byte c = scanned [] _ _ faultless_none refl

pub returns-clause-byte_order_mark : goal.returns-clause-byte_order_mark
unfolding lines_read fault_in kind_of_field state_names each_once
returns-clause-byte_order_mark c = scanned [] _ _ faultless_none refl

pub returns-clause-end_of_file_byte : goal.returns-clause-end_of_file_byte
unfolding lines_read fault_in kind_of_field state_names each_once
returns-clause-end_of_file_byte c = scanned [] _ _ faultless_none refl
