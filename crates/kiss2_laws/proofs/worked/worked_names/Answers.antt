use Rattle.std.proofs.Common.{refl, []}
use Rattle.kiss2.specs.Faults.{fault_in}
use Rattle.kiss2.specs.Kiss.{lines_read}
use Rattle.kiss2.specs.Standing.{each_once, state_names}
use Rattle.kiss2.specs.Words.{kind_of_field}
use Rattle.kiss2.specs.Laws.Faultless.{faultless_none}
use Rattle.kiss2_laws.proofs.Scanning.{scanned}
use Rattle.kiss2_laws.proofs.worked.worked_names.Goals as goal

pub returns-clause-input_names_need_inputs : goal.returns-clause-input_names_need_inputs
unfolding lines_read fault_in kind_of_field state_names each_once
returns-clause-input_names_need_inputs c = scanned [] _ _ faultless_none refl

pub returns-clause-output_names_need_outputs : goal.returns-clause-output_names_need_outputs
unfolding lines_read fault_in kind_of_field state_names each_once
returns-clause-output_names_need_outputs c = scanned [] _ _ faultless_none refl

pub returns-clause-input_names_alone : goal.returns-clause-input_names_alone
unfolding lines_read fault_in kind_of_field state_names each_once
returns-clause-input_names_alone c = scanned [] _ _ faultless_none refl

pub returns-clause-output_names_alone : goal.returns-clause-output_names_alone
unfolding lines_read fault_in kind_of_field state_names each_once
returns-clause-output_names_alone c = scanned [] _ _ faultless_none refl

pub returns-clause-counts_before_fields : goal.returns-clause-counts_before_fields
unfolding lines_read fault_in kind_of_field state_names each_once
returns-clause-counts_before_fields c = scanned [] _ _ faultless_none refl

pub returns-clause-few_outputs : goal.returns-clause-few_outputs
unfolding lines_read fault_in kind_of_field state_names each_once
returns-clause-few_outputs c = scanned [] _ _ faultless_none refl

pub returns-clause-many_outputs : goal.returns-clause-many_outputs
unfolding lines_read fault_in kind_of_field state_names each_once
returns-clause-many_outputs c = scanned [] _ _ faultless_none refl

pub returns-clause-backslash : goal.returns-clause-backslash
unfolding lines_read fault_in kind_of_field state_names each_once
returns-clause-backslash c = scanned [] _ _ faultless_none refl

pub returns-clause-output_backslash : goal.returns-clause-output_backslash
unfolding lines_read fault_in kind_of_field state_names each_once
returns-clause-output_backslash c = scanned [] _ _ faultless_none refl

pub returns-clause-fields_before_long : goal.returns-clause-fields_before_long
unfolding lines_read fault_in kind_of_field state_names each_once
returns-clause-fields_before_long c = scanned [] _ _ faultless_none refl

pub returns-clause-backslash_before_long : goal.returns-clause-backslash_before_long
unfolding lines_read fault_in kind_of_field state_names each_once
returns-clause-backslash_before_long c = scanned [] _ _ faultless_none refl

pub returns-clause-long_name : goal.returns-clause-long_name
unfolding lines_read fault_in kind_of_field state_names each_once
returns-clause-long_name c = scanned [] _ _ faultless_none refl

pub returns-clause-longer_name : goal.returns-clause-longer_name
unfolding lines_read fault_in kind_of_field state_names each_once
returns-clause-longer_name c = scanned [] _ _ faultless_none refl

pub returns-clause-first_longer_name : goal.returns-clause-first_longer_name
unfolding lines_read fault_in kind_of_field state_names each_once
returns-clause-first_longer_name c = scanned [] _ _ faultless_none refl

pub returns-clause-twice : goal.returns-clause-twice
unfolding lines_read fault_in kind_of_field state_names each_once
returns-clause-twice c = scanned [] _ _ faultless_none refl

pub returns-clause-output_twice : goal.returns-clause-output_twice
unfolding lines_read fault_in kind_of_field state_names each_once
returns-clause-output_twice c = scanned [] _ _ faultless_none refl

pub returns-clause-shared_name : goal.returns-clause-shared_name
unfolding lines_read fault_in kind_of_field state_names each_once
returns-clause-shared_name c = scanned [] _ _ faultless_none refl

pub returns-clause-again_before_fields : goal.returns-clause-again_before_fields
unfolding lines_read fault_in kind_of_field state_names each_once
returns-clause-again_before_fields c = scanned [] _ _ faultless_none refl

pub returns-clause-outputs_again_before_fields : goal.returns-clause-outputs_again_before_fields
unfolding lines_read fault_in kind_of_field state_names each_once
returns-clause-outputs_again_before_fields c = scanned [] _ _ faultless_none refl

pub returns-clause-marks_are_names : goal.returns-clause-marks_are_names
unfolding lines_read fault_in kind_of_field state_names each_once
returns-clause-marks_are_names c = scanned [] _ _ faultless_none refl
