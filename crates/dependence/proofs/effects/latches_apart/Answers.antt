use Rattle.std.proofs.Common.{Some, ap, sym, ◌∙◌}
use Rattle.dependence.proofs.Adding.{latches_apart}
use Rattle.dependence.proofs.effects.latches_apart.Goals as goal

pub returns-in-Some-Some : goal.returns-in-Some-Some
returns-in-Some-Some c i =
    latches_apart c.args.words.now c.args.one.now c.args.other.now i c.from.result c.from-in-Some-Some.result
    (c.in-Some-Some.is-0 ∙ ap Some (sym c.from.ensures)) (c.in-Some-Some.is-1 ∙ ap Some (sym c.from-in-Some-Some.ensures))
