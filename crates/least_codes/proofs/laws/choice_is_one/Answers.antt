use Rattle.least_codes.specs.Laws.Chosen.{given_codes_are_least, least_code_is_one, least_split_is_one}
use Rattle.least_codes.proofs.laws.choice_is_one.Goals as goal

pub returns-clause-code : goal.returns-clause-code
returns-clause-code c = least_code_is_one

pub returns-clause-split : goal.returns-clause-split
returns-clause-split c = least_split_is_one

pub returns-clause-given : goal.returns-clause-given
returns-clause-given c = given_codes_are_least
