use Rattle.feedback_split.proofs.Sufficing.{suffices_pair}
use Rattle.feedback_split.proofs.laws.suffices_by_meet.Goals as goal

pub returns : goal.returns
returns c = suffices_pair
