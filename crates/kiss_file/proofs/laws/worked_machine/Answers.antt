use Rattle.std.proofs.Common.{refl}
use Rattle.kiss_file.specs.Worked.{second_row}
use Rattle.kiss_file.proofs.WorkedMachine.{answered, conflict, next_at_2, no_conflict_after, no_conflict_before, open_at_2, outputs_at_2, said_at_0, said_at_1, second_at, some_cubes}
use Rattle.kiss_file.proofs.laws.worked_machine.Goals as goal

pub returns-clause-some : goal.returns-clause-some
returns-clause-some c = some_cubes

pub returns-clause-first_and_third : goal.returns-clause-first_and_third
returns-clause-first_and_third c first second third are = conflict first second third are

pub returns-clause-not_first_and_second : goal.returns-clause-not_first_and_second
returns-clause-not_first_and_second c first second third are = no_conflict_before first second third are

pub returns-clause-not_second_and_third : goal.returns-clause-not_second_and_third
returns-clause-not_second_and_third c first second third are = no_conflict_after first second third are

pub returns-clause-said_at_0 : goal.returns-clause-said_at_0
returns-clause-said_at_0 c first second third are = said_at_0 first second third are

pub returns-clause-said_at_1 : goal.returns-clause-said_at_1
returns-clause-said_at_1 c first second third are = said_at_1 first second third are

pub returns-clause-next_said_at_2 : goal.returns-clause-next_said_at_2
returns-clause-next_said_at_2 c first second third are = (second_row second, second_at first second third are, refl)

pub returns-clause-output_0_said_at_2 : goal.returns-clause-output_0_said_at_2
returns-clause-output_0_said_at_2 c first second third are = (second_row second, second_at first second third are, refl)

pub returns-clause-output_1_open_at_2 : goal.returns-clause-output_1_open_at_2
returns-clause-output_1_open_at_2 c first second third are = open_at_2 first second third are

pub returns-clause-next_at_2 : goal.returns-clause-next_at_2
returns-clause-next_at_2 c first second third are = next_at_2 first second third are

pub returns-clause-outputs_at_2 : goal.returns-clause-outputs_at_2
returns-clause-outputs_at_2 c first second third are = outputs_at_2 first second third are

pub returns-clause-next_of_no_row : goal.returns-clause-next_of_no_row
returns-clause-next_of_no_row c first second third are = refl

pub returns-clause-outputs_of_no_row : goal.returns-clause-outputs_of_no_row
returns-clause-outputs_of_no_row c first second third are = refl

pub returns-clause-answered : goal.returns-clause-answered
returns-clause-answered c first second third are = answered first second third are
