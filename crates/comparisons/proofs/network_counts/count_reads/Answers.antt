use Rattle.std.proofs.Common.{◌∙◌}
use Rattle.comparisons.proofs.Noted.{reads_counted}
use Rattle.comparisons.proofs.network_counts.count_reads.Goals as goal

pub returns : goal.returns
returns c = reads_counted c.args.net.now _ _ _ _ c.as_slice-gates.ensures c.as_slice-latches.ensures (c.as_slice.ensures ∙ c.in_ok-outputs.ensures) c.in_ok-count.ensures
