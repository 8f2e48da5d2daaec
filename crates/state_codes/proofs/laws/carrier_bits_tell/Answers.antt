use Rattle.state_codes.specs.Laws.Codes.{carrier_bits_tell}
use Rattle.state_codes.proofs.laws.carrier_bits_tell.Goals as goal

pub returns : goal.returns
returns c = carrier_bits_tell
