use Rattle.std.proofs.Common.{refl}
use Rattle.std.specs.Fmt.{digits}
use Rattle.comparisons.proofs.worked.worked_lines.Goals as goal

pub returns-clause-parts : goal.returns-clause-parts
unfolding digits
returns-clause-parts c = refl

pub returns-clause-order : goal.returns-clause-order
unfolding digits
returns-clause-order c = refl

pub returns-clause-bits : goal.returns-clause-bits
unfolding digits
returns-clause-bits c = refl

pub returns-clause-states : goal.returns-clause-states
unfolding digits
returns-clause-states c = refl
