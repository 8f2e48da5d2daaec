use Rattle.cubes.proofs.Least.{each_from_region, first_from_least}
use Rattle.cubes.proofs.gap.first_gap.Goals as goal

pub returns-in_ok-least_gap-in-Some-clause-some : goal.returns-in_ok-least_gap-in-Some-clause-some
returns-in_ok-least_gap-in-Some-clause-some c =
    rw c.whole-whole.ensures.width at
    (first_from_least c.args.list.now c.whole-whole.result c.whole-whole.ensures.care c.in_ok-least_gap-in-Some.field-0 c.in_ok-least_gap-in-Some.ensures)

pub returns-in-None-clause-none : goal.returns-in-None-clause-none
returns-in-None-clause-none c =
    rw c.whole-whole.ensures.width at
    (each_from_region c.args.list.now c.whole-whole.result c.whole-whole.ensures.care (rw c.in-None.is at c.in_ok-gap.ensures.none))
