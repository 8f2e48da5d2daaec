use Rattle.std.proofs.Common.{arith}
use Rattle.least_codes.proofs.LeastSets.{least_from_first, some_size}
use Rattle.least_codes.proofs.choice.least_choice.Goals as goal

pub returns-in-Some-clause-least : goal.returns-in-Some-clause-least
returns-in-Some-clause-least c = least_from_first c.args.question.now c.loop-size.size c.in-Some.set c.loop-size.invariant c.in-Some.ensures.some

pub unreachable-requires : goal.unreachable-requires
unreachable-requires c = some_size c.args.question.now c.requires.below c.requires.enough (λ size below. c.loop-size.invariant size (omega arith))
