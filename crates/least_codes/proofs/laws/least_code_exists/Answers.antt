use Rattle.least_codes.proofs.Existing.{least_code_exists, least_code_has_zeros, least_split_exists}
use Rattle.least_codes.proofs.laws.least_code_exists.Goals as goal

pub returns-clause-code : goal.returns-clause-code
returns-clause-code c = least_code_exists

pub returns-clause-zeros : goal.returns-clause-zeros
returns-clause-zeros c = least_code_has_zeros

pub returns-clause-split : goal.returns-clause-split
returns-clause-split c = least_split_exists
