use Rattle.std.proofs.Common.{inl, refl}
use Rattle.blif_laws.proofs.worked.worked_clocks.Goals as goal

pub returns-clause-second_control : goal.returns-clause-second_control
returns-clause-second_control c = inl refl

pub returns-clause-second_clock : goal.returns-clause-second_clock
returns-clause-second_clock c = inl refl

pub returns-clause-control_beside_nil : goal.returns-clause-control_beside_nil
returns-clause-control_beside_nil c = inl refl

pub returns-clause-driven_clock : goal.returns-clause-driven_clock
returns-clause-driven_clock c = inl refl

pub returns-clause-latch_drives_clock : goal.returns-clause-latch_drives_clock
returns-clause-latch_drives_clock c = inl refl

pub returns-clause-joined_number : goal.returns-clause-joined_number
returns-clause-joined_number c = inl refl

pub returns-clause-joined_word : goal.returns-clause-joined_word
returns-clause-joined_word c = inl refl

pub returns-clause-joined_bad : goal.returns-clause-joined_bad
returns-clause-joined_bad c = inl refl

pub returns-clause-joined_end : goal.returns-clause-joined_end
returns-clause-joined_end c = inl refl

pub returns-clause-first_named_by_word : goal.returns-clause-first_named_by_word
returns-clause-first_named_by_word c = inl refl

pub returns-clause-line_before_driven_clock : goal.returns-clause-line_before_driven_clock
returns-clause-line_before_driven_clock c = inl refl

pub returns-clause-driven_before_structure : goal.returns-clause-driven_before_structure
returns-clause-driven_before_structure c = inl refl

pub returns-clause-comment_backslash : goal.returns-clause-comment_backslash
returns-clause-comment_backslash c = inl refl

pub returns-clause-joined_bad_first : goal.returns-clause-joined_bad_first
returns-clause-joined_bad_first c = inl refl

pub returns-clause-joined_backslash : goal.returns-clause-joined_backslash
returns-clause-joined_backslash c = inl refl

pub returns-clause-joined_word_of_end : goal.returns-clause-joined_word_of_end
returns-clause-joined_word_of_end c = inl refl

pub returns-clause-joined_comment : goal.returns-clause-joined_comment
returns-clause-joined_comment c = inl refl

pub returns-clause-driven_before_it_is_named : goal.returns-clause-driven_before_it_is_named
returns-clause-driven_before_it_is_named c = inl refl

pub returns-clause-joined_past_a_tab : goal.returns-clause-joined_past_a_tab
returns-clause-joined_past_a_tab c = inl refl

pub returns-clause-backslash_before_a_tab : goal.returns-clause-backslash_before_a_tab
returns-clause-backslash_before_a_tab c = inl refl
