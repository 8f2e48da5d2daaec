use Rattle.std.proofs.Common.{refl}
use Rattle.state_reduce.proofs.Works.{alike_of, reduced_is}
use Rattle.state_reduce.proofs.work.reduced.Goals as goal

pub file_of_classes-requires-clause-alike : goal.file_of_classes-requires-clause-alike
file_of_classes-requires-clause-alike c = alike_of c.args.machine.now c.args.file.now c.in_ok-classes.classes c.requires.machine c.in_ok-classes.ensures

pub returns : goal.returns
returns c =
    reduced_is c.args.file.now c.in_ok-quotient.quotient _ c.in_ok-classes.classes refl (alike_of c.args.machine.now c.args.file.now c.in_ok-classes.classes c.requires.machine c.in_ok-classes.ensures)
    c.in_ok-quotient.ensures.quotient c.in_ok-quotient.ensures.in_order c.in_ok-machine.ensures refl refl
