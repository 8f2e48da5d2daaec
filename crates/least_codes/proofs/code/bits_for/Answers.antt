use Rattle.least_codes.proofs.Least.{need_of_eight, need_of_four}
use Rattle.least_codes.proofs.code.bits_for.Goals as goal

pub returns-then-n-le4-clause-need : goal.returns-then-n-le4-clause-need
returns-then-n-le4-clause-need c = need_of_four c.args.n c.requires.some c.if-n-le4.true

pub returns-else-n-le4-clause-need : goal.returns-else-n-le4-clause-need
returns-else-n-le4-clause-need c = need_of_eight c.args.n c.if-n-le4.false c.requires.most
