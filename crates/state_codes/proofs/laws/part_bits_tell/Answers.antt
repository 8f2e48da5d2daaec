use Rattle.state_codes.specs.Laws.Codes.{part_bits_tell}
use Rattle.state_codes.proofs.laws.part_bits_tell.Goals as goal

pub returns : goal.returns
returns c = part_bits_tell
