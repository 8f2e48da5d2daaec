use Rattle.std.proofs.Common.{refl}
use Rattle.blif_laws.proofs.Accepted.{read_from_test}
use Rattle.blif_laws.proofs.worked.worked_texts.Goals as goal

pub returns-clause-output_of_an_input : goal.returns-clause-output_of_an_input
returns-clause-output_of_an_input c = read_from_test _ _ refl refl refl refl refl refl refl

pub returns-clause-two_outputs_of_one_name : goal.returns-clause-two_outputs_of_one_name
returns-clause-two_outputs_of_one_name c = read_from_test _ _ refl refl refl refl refl refl refl

pub returns-clause-latch_of_an_input : goal.returns-clause-latch_of_an_input
returns-clause-latch_of_an_input c = read_from_test _ _ refl refl refl refl refl refl refl

pub returns-clause-latch_of_itself : goal.returns-clause-latch_of_itself
returns-clause-latch_of_itself c = read_from_test _ _ refl refl refl refl refl refl refl

pub returns-clause-clock_of_nothing : goal.returns-clause-clock_of_nothing
returns-clause-clock_of_nothing c = read_from_test _ _ refl refl refl refl refl refl refl

pub returns-clause-equal_rows : goal.returns-clause-equal_rows
returns-clause-equal_rows c = read_from_test _ _ refl refl refl refl refl refl refl

pub returns-clause-bad_byte_after_the_end : goal.returns-clause-bad_byte_after_the_end
returns-clause-bad_byte_after_the_end c = read_from_test _ _ refl refl refl refl refl refl refl

pub returns-clause-end_joined_with_nothing : goal.returns-clause-end_joined_with_nothing
returns-clause-end_joined_with_nothing c = read_from_test _ _ refl refl refl refl refl refl refl
