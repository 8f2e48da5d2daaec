use Rattle.net_core.proofs.Exclusive.{sound_none}
use Rattle.net_core.proofs.laws.sound_has_no_cause.Goals as goal

pub returns : goal.returns
returns c = sound_none
