use Rattle.std.proofs.Common.{inl, refl}
use Rattle.blif_laws.proofs.worked.worked_beginnings.Goals as goal

pub returns-clause-nothing : goal.returns-clause-nothing
returns-clause-nothing c = inl refl

pub returns-clause-ended_first : goal.returns-clause-ended_first
returns-clause-ended_first c = inl refl

pub returns-clause-comments_alone : goal.returns-clause-comments_alone
returns-clause-comments_alone c = inl refl

pub returns-clause-inputs_first : goal.returns-clause-inputs_first
returns-clause-inputs_first c = inl refl

pub returns-clause-row_first : goal.returns-clause-row_first
returns-clause-row_first c = inl refl

pub returns-clause-bad_before_no_model : goal.returns-clause-bad_before_no_model
returns-clause-bad_before_no_model c = inl refl

pub returns-clause-bad_end : goal.returns-clause-bad_end
returns-clause-bad_end c = inl refl

pub returns-clause-bad_before_unsupported : goal.returns-clause-bad_before_unsupported
returns-clause-bad_before_unsupported c = inl refl

pub returns-clause-backslash_within : goal.returns-clause-backslash_within
returns-clause-backslash_within c = inl refl

pub returns-clause-other_word_first : goal.returns-clause-other_word_first
returns-clause-other_word_first c = inl refl

pub returns-clause-bad_end_first : goal.returns-clause-bad_end_first
returns-clause-bad_end_first c = inl refl
