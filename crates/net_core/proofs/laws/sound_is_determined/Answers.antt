use Rattle.net_core.specs.Laws.Valuations.{sound_one}
use Rattle.net_core.proofs.laws.sound_is_determined.Goals as goal

pub returns : goal.returns
returns c = sound_one
