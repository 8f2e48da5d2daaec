use Rattle.least_codes.proofs.Reading.{parts_tell_all}
use Rattle.least_codes.proofs.laws.parts_tell_all.Goals as goal

pub returns : goal.returns
returns c = parts_tell_all
