use Rattle.least_codes.proofs.Gates.{least_code_reads_least}
use Rattle.least_codes.proofs.Rule.{rule_gives_least, rule_gives_least_set}
use Rattle.least_codes.proofs.laws.rule_gives_least.Goals as goal

pub returns-clause-rule : goal.returns-clause-rule
returns-clause-rule c = rule_gives_least

pub returns-clause-set : goal.returns-clause-set
returns-clause-set c = rule_gives_least_set

pub returns-clause-gates : goal.returns-clause-gates
returns-clause-gates c = least_code_reads_least
