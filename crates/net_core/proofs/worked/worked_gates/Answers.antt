use Rattle.std.proofs.Common.{refl}
use Rattle.net_core.proofs.Judged.{nothing_from_fault}
use Rattle.net_core.proofs.worked.worked_gates.Goals as goal

pub returns-clause-mixed : goal.returns-clause-mixed
returns-clause-mixed c = nothing_from_fault _ refl

pub returns-clause-too_wide : goal.returns-clause-too_wide
returns-clause-too_wide c = nothing_from_fault _ refl

pub returns-clause-other_character : goal.returns-clause-other_character
returns-clause-other_character c = nothing_from_fault _ refl

pub returns-clause-other_bit : goal.returns-clause-other_bit
returns-clause-other_bit c = nothing_from_fault _ refl

pub returns-clause-no_bit : goal.returns-clause-no_bit
returns-clause-no_bit c = nothing_from_fault _ refl

pub returns-clause-plane_of_none : goal.returns-clause-plane_of_none
returns-clause-plane_of_none c = nothing_from_fault _ refl

pub returns-clause-three_fields : goal.returns-clause-three_fields
returns-clause-three_fields c = nothing_from_fault _ refl

pub returns-clause-row_alone : goal.returns-clause-row_alone
returns-clause-row_alone c = nothing_from_fault _ refl

pub returns-clause-row_after_outputs : goal.returns-clause-row_after_outputs
returns-clause-row_after_outputs c = nothing_from_fault _ refl

pub returns-clause-no_names : goal.returns-clause-no_names
returns-clause-no_names c = nothing_from_fault _ refl

pub returns-clause-mixed_constant : goal.returns-clause-mixed_constant
returns-clause-mixed_constant c = nothing_from_fault _ refl

pub returns-clause-dash_of_none : goal.returns-clause-dash_of_none
returns-clause-dash_of_none c = nothing_from_fault _ refl
