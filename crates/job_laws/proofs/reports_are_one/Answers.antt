-- The law is proved of the definitions.
use Rattle.job_laws.proofs.Reports.{reports_are_one}
use Rattle.job_laws.proofs.reports_are_one.Goals as goal

pub returns : goal.returns
returns c = reports_are_one c.read_once.ensures.one_file c.blif_once.ensures c.part_is_one.ensures c.sizes_are_sizes.ensures
