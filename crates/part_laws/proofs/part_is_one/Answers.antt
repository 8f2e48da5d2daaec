use Rattle.part_laws.proofs.Texts.{part_is_one}
use Rattle.part_laws.proofs.part_is_one.Goals as goal

pub returns : goal.returns
returns c = part_is_one
