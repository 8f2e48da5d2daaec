use Rattle.std.proofs.Common.{inl, refl}
use Rattle.blif_laws.proofs.worked.worked_rows.Goals as goal

pub returns-clause-bad_row : goal.returns-clause-bad_row
returns-clause-bad_row c = inl refl

pub returns-clause-bit_two : goal.returns-clause-bit_two
returns-clause-bit_two c = inl refl

pub returns-clause-row_before_cover : goal.returns-clause-row_before_cover
returns-clause-row_before_cover c = inl refl

pub returns-clause-gate_before : goal.returns-clause-gate_before
returns-clause-gate_before c = inl refl

pub returns-clause-mixed_cover : goal.returns-clause-mixed_cover
returns-clause-mixed_cover c = inl refl

pub returns-clause-mixed_joined : goal.returns-clause-mixed_joined
returns-clause-mixed_joined c = inl refl

pub returns-clause-skipped_between : goal.returns-clause-skipped_between
returns-clause-skipped_between c = inl refl

pub returns-clause-row_after_clock : goal.returns-clause-row_after_clock
returns-clause-row_after_clock c = inl refl

pub returns-clause-few_characters : goal.returns-clause-few_characters
returns-clause-few_characters c = inl refl

pub returns-clause-letter_in_a_plane : goal.returns-clause-letter_in_a_plane
returns-clause-letter_in_a_plane c = inl refl

pub returns-clause-two_output_bits : goal.returns-clause-two_output_bits
returns-clause-two_output_bits c = inl refl

pub returns-clause-dash_of_a_constant : goal.returns-clause-dash_of_a_constant
returns-clause-dash_of_a_constant c = inl refl

pub returns-clause-two_bits_of_a_constant : goal.returns-clause-two_bits_of_a_constant
returns-clause-two_bits_of_a_constant c = inl refl
