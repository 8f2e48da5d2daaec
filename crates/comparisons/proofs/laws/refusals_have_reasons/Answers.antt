use Rattle.comparisons.proofs.Reasons.{refusals_have_reasons, register_refusals_have_reasons}
use Rattle.comparisons.proofs.laws.refusals_have_reasons.Goals as goal

pub returns : goal.returns
returns c = record { kinds = refusals_have_reasons; register = register_refusals_have_reasons }
