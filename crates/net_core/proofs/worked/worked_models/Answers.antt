use Rattle.std.proofs.Common.{refl, arith}
use Rattle.net_core.proofs.Judged.{denotes_from_test, nothing_from_fault}
use Rattle.net_core.proofs.worked.worked_models.Goals as goal

pub returns-clause-inputs_first : goal.returns-clause-inputs_first
returns-clause-inputs_first c = nothing_from_fault _ refl

pub returns-clause-second_model : goal.returns-clause-second_model
returns-clause-second_model c = nothing_from_fault _ refl

pub returns-clause-two_names : goal.returns-clause-two_names
returns-clause-two_names c = nothing_from_fault _ refl

pub returns-clause-other_word : goal.returns-clause-other_word
returns-clause-other_word c = nothing_from_fault _ refl

pub returns-clause-longer_word : goal.returns-clause-longer_word
returns-clause-longer_word c = nothing_from_fault _ refl

pub returns-clause-long : goal.returns-clause-long
returns-clause-long c = denotes_from_test _ _ (omega arith) refl refl refl refl refl refl refl

pub returns-clause-no_names : goal.returns-clause-no_names
returns-clause-no_names c = denotes_from_test _ _ (omega arith) refl refl refl refl refl refl refl
