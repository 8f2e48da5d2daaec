use Rattle.std.proofs.Common.{refl}
use Rattle.std.proofs.lemmas.Result.{err_from_is_err_and}
use Rattle.hsdec_core.specs.declared.tasks.Task.TheVariants.{Walk}
use Rattle.hsdec_core.proofs.Making.{no_machine}
use Rattle.hsdec_core.proofs.Symbols.{made_later}
use Rattle.hsdec_core.proofs.symbol_tasks.walk.Goals as goal

pub returns-in_err-opened-clause-made : goal.returns-in_err-opened-clause-made
returns-in_err-opened-clause-made g c =
    let p = err_from_is_err_and c.from_residual.result c.from_residual.ensures.1 in
    rw (p.1, p.2) (no_machine c.args.job.now (g.F.Shelf.holds c.args.shelf.now) _ Walk c.in_err-opened.field-0.0 c.requires.task refl (λ bytes h. h) c.in_err-opened.ensures.opened)

pub returns-clause-made : goal.returns-clause-made
returns-clause-made g c =
    made_later c.args.job.now (g.F.Shelf.holds c.args.shelf.now) _ _ _ _ c.run_machine.result c.in_ok-opened.ensures.holds_the_same c.in_ok-opened.ensures.never_falls c.run_machine.ensures.made
