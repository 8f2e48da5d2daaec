use Rattle.comparisons.proofs.Once.{counts_are_one, register_counts_are_one}
use Rattle.comparisons.proofs.laws.counts_are_one.Goals as goal

pub returns : goal.returns
returns c = record { kinds = counts_are_one; register = register_counts_are_one }
