use Rattle.comparisons.proofs.Once.{never_both, never_both_of_register}
use Rattle.comparisons.proofs.laws.never_both.Goals as goal

pub returns : goal.returns
returns c = record { kinds = never_both; register = never_both_of_register }
