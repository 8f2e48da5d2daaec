use Rattle.least_codes.proofs.Reading.{all_bits_permit}
use Rattle.least_codes.proofs.laws.all_bits_permit.Goals as goal

pub returns : goal.returns
returns c = all_bits_permit
