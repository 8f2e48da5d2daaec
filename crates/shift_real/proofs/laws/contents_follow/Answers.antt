use Rattle.shift_real.proofs.Shifting.{contents_tell, latches_follow, states_follow}
use Rattle.shift_real.proofs.laws.contents_follow.Goals as goal

pub returns-clause-tell : goal.returns-clause-tell
returns-clause-tell c = contents_tell

pub returns-clause-states : goal.returns-clause-states
returns-clause-states c = states_follow

pub returns-clause-latches : goal.returns-clause-latches
returns-clause-latches c = latches_follow
