-- The law is proved of the definitions.
use Rattle.job_laws.proofs.Comparisons.{comparisons_differ}
use Rattle.job_laws.proofs.comparisons_differ_in_row_counts.Goals as goal

pub returns : goal.returns
returns c = comparisons_differ c.read_once.ensures.one_file (record {
  counts = c.counts_are_one.ensures.kinds;
  register_counts = c.counts_are_one.ensures.register;
  apart = c.never_both.ensures.kinds;
  register_apart = c.never_both.ensures.register;
  reasons = c.reasons_are_one.ensures.kinds;
  register_reasons = c.reasons_are_one.ensures.register;
})
