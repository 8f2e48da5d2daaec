-- The law is proved of the definitions.
use Rattle.job_laws.proofs.Networks.{jobs_differ_in_rows}
use Rattle.job_laws.proofs.jobs_differ_in_rows.Goals as goal

pub returns : goal.returns
returns c =
    jobs_differ_in_rows c.read_once.ensures.one_file c.rows_alone_differ.ensures c.shift_rows_alone_differ.ensures c.networks_differ_in_rows.ensures c.covers_differ_in_rows.ensures c.sizes_are_sizes.ensures
