use Rattle.std.proofs.Common.{inl, refl}
use Rattle.blif_laws.proofs.worked.worked_forms.Goals as goal

pub returns-clause-unsupported : goal.returns-clause-unsupported
returns-clause-unsupported c = inl refl

pub returns-clause-arrival : goal.returns-clause-arrival
returns-clause-arrival c = inl refl

pub returns-clause-second_model : goal.returns-clause-second_model
returns-clause-second_model c = inl refl

pub returns-clause-model_names : goal.returns-clause-model_names
returns-clause-model_names c = inl refl

pub returns-clause-clock_names : goal.returns-clause-clock_names
returns-clause-clock_names c = inl refl

pub returns-clause-latch_fields : goal.returns-clause-latch_fields
returns-clause-latch_fields c = inl refl

pub returns-clause-start_before_kind : goal.returns-clause-start_before_kind
returns-clause-start_before_kind c = inl refl

pub returns-clause-row_alone : goal.returns-clause-row_alone
returns-clause-row_alone c = inl refl

pub returns-clause-row_after_inputs : goal.returns-clause-row_after_inputs
returns-clause-row_after_inputs c = inl refl

pub returns-clause-latch_kind : goal.returns-clause-latch_kind
returns-clause-latch_kind c = inl refl

pub returns-clause-kind_before_name : goal.returns-clause-kind_before_name
returns-clause-kind_before_name c = inl refl

pub returns-clause-capital_word : goal.returns-clause-capital_word
returns-clause-capital_word c = inl refl

pub returns-clause-shorter_word : goal.returns-clause-shorter_word
returns-clause-shorter_word c = inl refl

pub returns-clause-no_names : goal.returns-clause-no_names
returns-clause-no_names c = inl refl

pub returns-clause-two_digits : goal.returns-clause-two_digits
returns-clause-two_digits c = inl refl

pub returns-clause-type_alone : goal.returns-clause-type_alone
returns-clause-type_alone c = inl refl

pub returns-clause-active_high : goal.returns-clause-active_high
returns-clause-active_high c = inl refl

pub returns-clause-clock_names_before_long : goal.returns-clause-clock_names_before_long
returns-clause-clock_names_before_long c = inl refl

pub returns-clause-dot_alone : goal.returns-clause-dot_alone
returns-clause-dot_alone c = inl refl

pub returns-clause-long_word : goal.returns-clause-long_word
returns-clause-long_word c = inl refl

pub returns-clause-long_type : goal.returns-clause-long_type
returns-clause-long_type c = inl refl

pub returns-clause-latch_fields_before_long : goal.returns-clause-latch_fields_before_long
returns-clause-latch_fields_before_long c = inl refl

pub returns-clause-start_before_long : goal.returns-clause-start_before_long
returns-clause-start_before_long c = inl refl

pub returns-clause-kind_before_clocks : goal.returns-clause-kind_before_clocks
returns-clause-kind_before_clocks c = inl refl
