use Rattle.net_sim.proofs.WorkedRuns.{first_bit_first_run, given_for_unknown_run, given_start_run, off_set_run, on_set_run, own_start_run, start_at_one_run, unlike_run}
use Rattle.net_sim.proofs.laws.worked_runs.Goals as goal

pub returns-clause-on_set : goal.returns-clause-on_set
returns-clause-on_set c = on_set_run

pub returns-clause-off_set : goal.returns-clause-off_set
returns-clause-off_set c = off_set_run

pub returns-clause-own_start : goal.returns-clause-own_start
returns-clause-own_start c = own_start_run

pub returns-clause-given_start : goal.returns-clause-given_start
returns-clause-given_start c = given_start_run

pub returns-clause-first_bit_first : goal.returns-clause-first_bit_first
returns-clause-first_bit_first c = first_bit_first_run

pub returns-clause-start_at_one : goal.returns-clause-start_at_one
returns-clause-start_at_one c = start_at_one_run

pub returns-clause-given_for_unknown : goal.returns-clause-given_for_unknown
returns-clause-given_for_unknown c = given_for_unknown_run

pub returns-clause-unlike : goal.returns-clause-unlike
returns-clause-unlike c = unlike_run
