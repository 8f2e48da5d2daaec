use Rattle.std.proofs.Common.{◌-◌}
use Rattle.least_codes.proofs.choice.+first_with.Given as goal

abbrev pub decreases-first_with : goal.decreases-first_with
decreases-first_with l = l.question.now.bits - l.from
