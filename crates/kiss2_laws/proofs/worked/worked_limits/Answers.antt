use Rattle.std.proofs.Common.{refl, []}
use Rattle.kiss2.specs.Faults.{fault_in}
use Rattle.kiss2.specs.Kiss.{lines_read}
use Rattle.kiss2.specs.Standing.{each_once, state_names}
use Rattle.kiss2.specs.Words.{kind_of_field}
use Rattle.kiss2.specs.Laws.Faultless.{faultless_none}
use Rattle.kiss2_laws.proofs.Scanning.{scanned}
use Rattle.kiss2_laws.proofs.worked.worked_limits.Goals as goal

pub returns-clause-inputs : goal.returns-clause-inputs
unfolding lines_read fault_in kind_of_field state_names each_once
returns-clause-inputs c = scanned [] _ _ faultless_none refl

pub returns-clause-outputs : goal.returns-clause-outputs
unfolding lines_read fault_in kind_of_field state_names each_once
returns-clause-outputs c = scanned [] _ _ faultless_none refl

pub returns-clause-many_outputs : goal.returns-clause-many_outputs
unfolding lines_read fault_in kind_of_field state_names each_once
returns-clause-many_outputs c = scanned [] _ _ faultless_none refl

pub returns-clause-long_name : goal.returns-clause-long_name
unfolding lines_read fault_in kind_of_field state_names each_once
returns-clause-long_name c = scanned [] _ _ faultless_none refl

pub returns-clause-longer_name : goal.returns-clause-longer_name
unfolding lines_read fault_in kind_of_field state_names each_once
returns-clause-longer_name c = scanned [] _ _ faultless_none refl

pub returns-clause-longer_reset : goal.returns-clause-longer_reset
unfolding lines_read fault_in kind_of_field state_names each_once
returns-clause-longer_reset c = scanned [] _ _ faultless_none refl

pub returns-clause-longer_before_shared : goal.returns-clause-longer_before_shared
unfolding lines_read fault_in kind_of_field state_names each_once
returns-clause-longer_before_shared c = scanned [] _ _ faultless_none refl

pub returns-clause-long_current_name : goal.returns-clause-long_current_name
unfolding lines_read fault_in kind_of_field state_names each_once
returns-clause-long_current_name c = scanned [] _ _ faultless_none refl

pub returns-clause-long_input_name : goal.returns-clause-long_input_name
unfolding lines_read fault_in kind_of_field state_names each_once
returns-clause-long_input_name c = scanned [] _ _ faultless_none refl
