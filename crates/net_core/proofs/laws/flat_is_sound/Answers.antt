use Rattle.net_core.specs.Laws.Flat.{flat_sound}
use Rattle.net_core.proofs.laws.flat_is_sound.Goals as goal

pub returns : goal.returns
returns c = flat_sound
