use Rattle.std.proofs.Common.{inl, refl}
use Rattle.blif_laws.proofs.worked.worked_reaches.Goals as goal

pub returns-clause-model_name : goal.returns-clause-model_name
returns-clause-model_name c = inl refl

pub returns-clause-name : goal.returns-clause-name
returns-clause-name c = inl refl

pub returns-clause-inputs_and_outputs : goal.returns-clause-inputs_and_outputs
returns-clause-inputs_and_outputs c = inl refl

pub returns-clause-latches : goal.returns-clause-latches
returns-clause-latches c = inl refl

pub returns-clause-gate_inputs : goal.returns-clause-gate_inputs
returns-clause-gate_inputs c = inl refl

pub returns-clause-names_of_each_word : goal.returns-clause-names_of_each_word
returns-clause-names_of_each_word c = inl refl

pub returns-clause-row_of_65_characters : goal.returns-clause-row_of_65_characters
returns-clause-row_of_65_characters c = inl refl
