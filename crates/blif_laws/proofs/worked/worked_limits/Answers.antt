use Rattle.std.proofs.Common.{inl, refl}
use Rattle.blif_laws.proofs.worked.worked_limits.Goals as goal

pub returns-clause-long_name : goal.returns-clause-long_name
returns-clause-long_name c = inl refl

pub returns-clause-first_long_name : goal.returns-clause-first_long_name
returns-clause-first_long_name c = inl refl

pub returns-clause-long_control : goal.returns-clause-long_control
returns-clause-long_control c = inl refl

pub returns-clause-many_inputs : goal.returns-clause-many_inputs
returns-clause-many_inputs c = inl refl

pub returns-clause-long_before_many : goal.returns-clause-long_before_many
returns-clause-long_before_many c = inl refl

pub returns-clause-many_outputs : goal.returns-clause-many_outputs
returns-clause-many_outputs c = inl refl

pub returns-clause-many_gate_inputs : goal.returns-clause-many_gate_inputs
returns-clause-many_gate_inputs c = inl refl

pub returns-clause-many_latches : goal.returns-clause-many_latches
returns-clause-many_latches c = inl refl

pub returns-clause-inputs_one_by_one : goal.returns-clause-inputs_one_by_one
returns-clause-inputs_one_by_one c = inl refl

pub returns-clause-outputs_one_by_one : goal.returns-clause-outputs_one_by_one
returns-clause-outputs_one_by_one c = inl refl

pub returns-clause-gate_inputs_one_by_one : goal.returns-clause-gate_inputs_one_by_one
returns-clause-gate_inputs_one_by_one c = inl refl

pub returns-clause-first_of_two_long_names : goal.returns-clause-first_of_two_long_names
returns-clause-first_of_two_long_names c = inl refl

pub returns-clause-longer_name : goal.returns-clause-longer_name
returns-clause-longer_name c = inl refl
