use Rattle.std.proofs.Common.{refl, arith}
use Rattle.net_core.proofs.Judged.{denotes_from_test, nothing_from_fault}
use Rattle.net_core.proofs.worked.worked_lines.Goals as goal

pub returns-clause-two_backslashes : goal.returns-clause-two_backslashes
returns-clause-two_backslashes c = nothing_from_fault _ refl

pub returns-clause-backslash_within : goal.returns-clause-backslash_within
returns-clause-backslash_within c = nothing_from_fault _ refl

pub returns-clause-bad_byte : goal.returns-clause-bad_byte
returns-clause-bad_byte c = nothing_from_fault _ refl

pub returns-clause-bad_end : goal.returns-clause-bad_end
returns-clause-bad_end c = nothing_from_fault _ refl

pub returns-clause-bad_part_after_end : goal.returns-clause-bad_part_after_end
returns-clause-bad_part_after_end c = nothing_from_fault _ refl

pub returns-clause-bad_first_part : goal.returns-clause-bad_first_part
returns-clause-bad_first_part c = nothing_from_fault _ refl

pub returns-clause-backslash_in_first_part : goal.returns-clause-backslash_in_first_part
returns-clause-backslash_in_first_part c = nothing_from_fault _ refl

pub returns-clause-ended_by_joined_line : goal.returns-clause-ended_by_joined_line
returns-clause-ended_by_joined_line c = denotes_from_test _ _ (omega arith) refl refl refl refl refl refl refl

pub returns-clause-joined_line_skipped : goal.returns-clause-joined_line_skipped
returns-clause-joined_line_skipped c = denotes_from_test _ _ (omega arith) refl refl refl refl refl refl refl
