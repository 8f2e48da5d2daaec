use Rattle.std.proofs.Common.{refl, true, false}
use Rattle.net_core.specs.Laws.Unlike.{unlike_step}
use Rattle.net_core.proofs.WorkedSteps.{toggle_step, reads_later_step, own_contrary_none, own_value_none}
use Rattle.net_core.proofs.worked.worked_steps.Goals as goal

pub returns-clause-stays : goal.returns-clause-stays
returns-clause-stays c = toggle_step false true true refl

pub returns-clause-changes : goal.returns-clause-changes
returns-clause-changes c = toggle_step true true false refl

pub returns-clause-reads_later : goal.returns-clause-reads_later
returns-clause-reads_later c = reads_later_step

pub returns-clause-own_contrary : goal.returns-clause-own_contrary
returns-clause-own_contrary c = own_contrary_none

pub returns-clause-own_value : goal.returns-clause-own_value
returns-clause-own_value c = own_value_none

pub returns-clause-first_alone : goal.returns-clause-first_alone
returns-clause-first_alone c = unlike_step true false true false refl refl

pub returns-clause-second_alone : goal.returns-clause-second_alone
returns-clause-second_alone c = unlike_step false true false true refl refl
