-- The law is proved of the definitions.
use Rattle.job_laws.proofs.Trials.{trials_differ_in_rows}
use Rattle.job_laws.proofs.trials_differ_in_rows.Goals as goal

pub returns : goal.returns
returns c = trials_differ_in_rows c.networks_differ_in_rows.ensures
