use Rattle.part_laws.proofs.Texts.{part_is_read}
use Rattle.part_laws.proofs.part_is_read.Goals as goal

pub returns : goal.returns
returns c = part_is_read
