use Rattle.std.proofs.Common.{inl, refl}
use Rattle.blif_laws.proofs.worked.worked_orders.Goals as goal

pub returns-clause-clocks_before_latches : goal.returns-clause-clocks_before_latches
returns-clause-clocks_before_latches c = inl refl

pub returns-clause-long_before_latches : goal.returns-clause-long_before_latches
returns-clause-long_before_latches c = inl refl

pub returns-clause-long_before_gate_inputs : goal.returns-clause-long_before_gate_inputs
returns-clause-long_before_gate_inputs c = inl refl

pub returns-clause-first_named_clock : goal.returns-clause-first_named_clock
returns-clause-first_named_clock c = inl refl

pub returns-clause-input_before_control : goal.returns-clause-input_before_control
returns-clause-input_before_control c = inl refl

pub returns-clause-long_latch_output : goal.returns-clause-long_latch_output
returns-clause-long_latch_output c = inl refl

pub returns-clause-long_output : goal.returns-clause-long_output
returns-clause-long_output c = inl refl

pub returns-clause-long_clock : goal.returns-clause-long_clock
returns-clause-long_clock c = inl refl

pub returns-clause-input_before_output : goal.returns-clause-input_before_output
returns-clause-input_before_output c = inl refl

pub returns-clause-output_before_control : goal.returns-clause-output_before_control
returns-clause-output_before_control c = inl refl

pub returns-clause-long_before_clocks : goal.returns-clause-long_before_clocks
returns-clause-long_before_clocks c = inl refl

pub returns-clause-long_before_outputs : goal.returns-clause-long_before_outputs
returns-clause-long_before_outputs c = inl refl
