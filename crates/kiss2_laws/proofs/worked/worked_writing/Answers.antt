use Rattle.std.proofs.Common.{refl, arith}
use Rattle.std.specs.Fmt.{digits}
use Rattle.cubes.specs.Field.{characters}
use Rattle.kiss2_laws.proofs.worked.worked_writing.Goals as goal

pub returns-clause-input_names : goal.returns-clause-input_names
unfolding digits
returns-clause-input_names c first second are = rw (are.first_is, are.second_is) refl

pub returns-clause-output_names : goal.returns-clause-output_names
unfolding digits
returns-clause-output_names c first second are = rw (are.first_is, are.second_is) refl

pub returns-clause-all_names : goal.returns-clause-all_names
unfolding digits
returns-clause-all_names c first second are = rw (are.first_is, are.second_is) refl

pub returns-clause-some : goal.returns-clause-some
unfolding characters
returns-clause-some c = (
  record { care = 1; value = 0; width = 2; width_positive = omega arith; width_bound = omega arith; value_in_care = refl; care_in_width = omega arith },
  record { care = 3; value = 1; width = 2; width_positive = omega arith; width_bound = omega arith; value_in_care = refl; care_in_width = omega arith },
  record { first_is = refl; second_is = refl },
)
