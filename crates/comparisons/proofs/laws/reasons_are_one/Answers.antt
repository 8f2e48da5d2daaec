use Rattle.comparisons.proofs.OneReason.{reasons_are_one, register_reasons_are_one}
use Rattle.comparisons.proofs.laws.reasons_are_one.Goals as goal

pub returns : goal.returns
returns c = record { kinds = reasons_are_one; register = register_reasons_are_one }
