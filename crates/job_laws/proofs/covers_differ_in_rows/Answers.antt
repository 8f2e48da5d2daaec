-- The law is proved of the definitions.
use Rattle.job_laws.proofs.Covers.{covers_differ_in_rows}
use Rattle.job_laws.proofs.covers_differ_in_rows.Goals as goal

pub returns : goal.returns
returns c = covers_differ_in_rows
