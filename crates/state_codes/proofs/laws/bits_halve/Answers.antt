use Rattle.state_codes.specs.Laws.Codes.{bits_halve}
use Rattle.state_codes.proofs.laws.bits_halve.Goals as goal

pub returns : goal.returns
returns c = bits_halve
